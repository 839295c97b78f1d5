use Prim.Native.Nat.{◌-◌}
use Rattle.spacing.specs.Pair.{sited}
use Rattle.stations.specs.Image.{count}
use Rattle.survey.specs.Ways.{looked, chosen_for}
use Rattle.survey.specs.Walking.{blocks}
use Rattle.nearby.proofs.Noting.{Noting}
use Rattle.nearby.proofs.short_positions.Given as goal

abbrev pub invariant-loop-i : goal.invariant-loop-i
invariant-loop-i l = let s = l.study in Noting (blocks (chosen_for s.terms) (looked s.terms) s.table.image.now (sited s.place l.channel)) (count s.table.image.now) l.positions.items l.from

abbrev pub decreases-loop-i : goal.decreases-loop-i
decreases-loop-i l = count l.study.table.image.now - l.from
