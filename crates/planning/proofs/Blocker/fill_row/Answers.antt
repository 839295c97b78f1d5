use native.Mathlib.Omega.{arith}
use Rattle.planning.proofs.Rowing.{row_turn}
use Rattle.planning.proofs.Blocker.fill_row.Goals as goal

pub loop-m-preserved : goal.loop-m-preserved
loop-m-preserved c = row_turn c.loop-m.invariant (omega arith) (omega arith) c.may_go.ensures
