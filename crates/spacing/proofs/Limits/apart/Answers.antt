use native.Mathlib.Omega.{arith}
use mir.Facts.{to_z-of_z}
use borrow.Author.Tests.{leb-true}
use Rattle.spacing.proofs.Places.{lat_fits, lon_fits}
use Rattle.spacing.proofs.Rule.{far_clear}
use Rattle.spacing.proofs.Untruncated.{untruncated}
use Rattle.spacing.proofs.Shortcuts.{north_far, east_far}
use Rattle.spacing.proofs.Limits.apart.Goals as goal

pub returns-then-self-q : goal.returns-then-self-q
returns-then-self-q c = let mine = c.requires.0 in
    let their = c.requires.1 in
    let lat = simp (to_z-of_z (lat_fits mine), to_z-of_z (lat_fits their)) at c.gap_size.ensures in
    λ km l. record { tells = λ t. far_clear l.table _ _ mine their (north_far l.table mine their (omega (arith, lat, (untruncated l.at).north _ their.known, c.if-self-q.true))) }

pub returns-else-self-q : goal.returns-else-self-q
returns-else-self-q c = let mine = c.requires.0 in
    let their = c.requires.1 in
    let lat = simp (to_z-of_z (lat_fits mine), to_z-of_z (lat_fits their)) at c.gap_size.ensures in
    let lon = simp (to_z-of_z (lon_fits mine), to_z-of_z (lon_fits their)) at c.lon_gap.ensures in
    λ km l. record { tells = λ t. far_clear l.table _ _ mine their (let w = untruncated l.at in east_far l.table mine their w.scale w.least (omega (arith, lat, w.north _ their.known, c.if-self-q.false)) (omega (arith, lon, w.east _ their.known, leb-true _ c.lon_gap.result t))) }
