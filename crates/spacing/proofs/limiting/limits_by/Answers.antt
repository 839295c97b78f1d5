use native.Mathlib.Omega.{arith}
use lib.Dec.{lit<}
use mir.Facts.{to_z-of_z}
use Rattle.part73.proofs.Chosen.{chosen-table}
use Rattle.spacing.proofs.Places.{lat_fits}
use Rattle.spacing.proofs.Limited.{row_filled, in_km, limits_filled}
use Rattle.spacing.proofs.limiting.limits_by.Goals as goal

pub cleared-requires : goal.cleared-requires
cleared-requires c = (in_km c.args.p c.requires.1.known c.co_channel_of-separations.ensures (chosen-table _), lit< tt)

pub cleared-requires-2 : goal.cleared-requires-2
cleared-requires-2 c = (in_km c.args.p c.requires.1.known c.co_channel_of-separations.ensures (chosen-table _), omega (arith, c.least_scale-scale.ensures.some))

pub returns : goal.returns
returns c =
    limits_filled c.args.p c.requires.1.known c.co_channel_of-separations.ensures c.requires.0
    (simp (to_z-of_z (lat_fits c.requires.1)) at c.least_scale-scale.ensures) (row_filled _ _ _ (λ b h. c.loop-b.invariant.at b (omega (arith, h, c.loop-b-test.false)))) c.cleared.ensures c.cleared-2.ensures
