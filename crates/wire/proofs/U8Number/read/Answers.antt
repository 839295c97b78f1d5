use native.Mathlib.Omega.{arith}
use native.Mathlib.Nat.{add-zero}
use Rattle.wire.specs.Be.{be}
use Rattle.wire.proofs.U8Number.read.Goals as goal

pub returns : goal.returns
unfolding be
returns c = rw add-zero (omega arith)
