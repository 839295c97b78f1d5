use Prim.Native.Nat.{◌-◌}
use Rattle.spacing.specs.Pair.{sited}
use Rattle.stations.specs.Image.{count}
use Rattle.survey.specs.Ways.{looked, chosen_for}
use Rattle.nearby.specs.Positions.{Clear}
use Rattle.nearby.proofs.Search.next.Given as goal

abbrev pub invariant-loop-i : goal.invariant-loop-i
invariant-loop-i l = let s = l.self.walk.study in Clear (chosen_for s.terms) (looked s.terms) s.table.image.now (sited s.place l.self.channel) l.fn.from l.from

abbrev pub decreases-loop-i : goal.decreases-loop-i
decreases-loop-i l = count l.self.walk.study.table.image.now - l.from
