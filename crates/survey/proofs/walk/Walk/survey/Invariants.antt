use Prim.Native.Nat.{◌-◌, ◌≤◌}
use Rattle.spacing.specs.Pair.{sited}
use Rattle.stations.specs.Image.{count}
use Rattle.survey.specs.Ways.{looked, chosen_for}
use Rattle.survey.specs.Walking.{blocks}
use Rattle.marking.specs.Marks.{Marked}
use Rattle.survey.proofs.walk.Walk.survey.Given as goal

abbrev pub invariant-loop-i : goal.invariant-loop-i
invariant-loop-i l = let s = l.self.study in
    (l.from ≤ count s.table.image.now) × Marked (λ m j. blocks (chosen_for s.terms) (looked s.terms) s.table.image.now (sited s.place m) j) l.channels.first l.channels.last l.from l.own

abbrev pub decreases-loop-i : goal.decreases-loop-i
decreases-loop-i l = count l.self.study.table.image.now - l.from
