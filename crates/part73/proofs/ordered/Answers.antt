use native.Mathlib.Omega.{arith}
use Rattle.part73.proofs.Rule.{rule}
use Rattle.part73.proofs.ordered.Goals as goal

pub returns : goal.returns
returns c = rule _ _ (omega arith) (omega arith) (omega arith)
