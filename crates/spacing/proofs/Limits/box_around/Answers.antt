use mathlib.Core.Path.{refl}
use mir.Facts.{to_z-of_z}
use native.Mathlib.Omega.{arith}
use Rattle.spacing.proofs.Places.{lat_fits, lon_fits}
use Rattle.spacing.proofs.Boxes.{up-seconds, across-seconds, surrounds}
use Rattle.spacing.proofs.Untruncated.{untruncated}
use Rattle.spacing.proofs.Limits.box_around.Goals as goal

pub overflow_cast-result : goal.overflow_cast-result
overflow_cast-result c = let l = c.requires.0.limited in
    omega (arith, (up-seconds l.table c.requires.1 (untruncated l.at)).most)

pub overflow_cast-result-2 : goal.overflow_cast-result-2
overflow_cast-result-2 c = let l = c.requires.0.limited in
    omega (arith, (across-seconds l.table c.requires.1 (untruncated l.at)).most)

pub returns : goal.returns
returns c = λ km l. surrounds l.table c.requires.1 (untruncated l.at) _ (to_z-of_z (lat_fits c.requires.1)) (to_z-of_z (lon_fits c.requires.1)) refl refl
