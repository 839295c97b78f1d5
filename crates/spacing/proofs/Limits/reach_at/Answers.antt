use Rattle.spacing.proofs.Reaching.{under_0, under_1, under_2, under_4}
use Rattle.spacing.proofs.Limits.reach_at.Goals as goal
use Rattle.spacing.proofs.Limits.reach_at.Goals.{then-squares-s, else-squares-s+then-squares-s-2, else-squares-s+else-squares-s-2+then-squares-s-3, else-squares-s+else-squares-s-2+else-squares-s-3}

pub returns : goal.returns
returns c = λ f. elim c.if-squares-s.branch [
  | then-squares-s w ↦ rw w.steps-is (under_0 f w.if-squares-s.true)
  | else-squares-s+then-squares-s-2 w ↦ rw w.steps-is (under_1 f w.if-squares-s.false w.if-squares-s-2.true)
  | else-squares-s+else-squares-s-2+then-squares-s-3 w ↦ rw w.steps-is (under_2 f w.if-squares-s-2.false w.if-squares-s-3.true)
  | else-squares-s+else-squares-s-2+else-squares-s-3 w ↦ rw w.steps-is (under_4 f w.if-squares-s-3.false)
]
