use Rattle.std.proofs.Common.{◌-◌, refl, ◌∙◌, ap, arith, to_z-of_z}
use Rattle.framing.specs.Frames.{less}
use Rattle.framing.proofs.Frames.{less_by}
use Rattle.framing.proofs.centred.Goals as goal

pub returns : goal.returns
returns c = record { low = less_by _ _ (omega (arith, c.requires.most)) ∙ ap (λ x. less x (c.args.far - 1)) (simp (to_z-of_z c.ranges.z) at c.cast_unsigned.ensures); size = refl }
