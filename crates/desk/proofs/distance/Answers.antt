use mathlib.Core.Path.{sym}
use native.Mathlib.Omega.{arith}
use Rattle.distance.proofs.Squares.{S-size}
use Rattle.desk.proofs.Asked.{site-placed}
use Rattle.desk.proofs.distance.Goals as goal

pub squared-s-requires : goal.squared-s-requires
squared-s-requires c = (site-placed _ _ (sym c.if-not-site_ok.ensures), site-placed _ _ (sym c.if-not-site_ok-2.ensures))

pub rounded_km-d-requires : goal.rounded_km-d-requires
rounded_km-d-requires c = omega (arith, c.squared-s.ensures, S-size (site-placed _ _ (sym c.if-not-site_ok.ensures)) (site-placed _ _ (sym c.if-not-site_ok-2.ensures)))
