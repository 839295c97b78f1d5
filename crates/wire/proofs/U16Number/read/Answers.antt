use native.Mathlib.Omega.{arith}
use native.Mathlib.Nat.{add-zero}
use Rattle.wire.specs.Be.{be}
use Rattle.wire.proofs.U16Number.read.Goals as goal

pub returns : goal.returns
unfolding be
returns c = rw add-zero (omega (arith, c.from.ensures, c.from-2.ensures))
