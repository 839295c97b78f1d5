use native.Mathlib.Omega.{arith}
use Rattle.wire.proofs.Width.{be-add}
use Rattle.wire.proofs.U32Number.read.Goals as goal

pub returns : goal.returns
returns c = let a = c.args in omega (arith, be-add 2 2 a.s.now a.at, c.from.ensures, c.read.ensures, c.from-2.ensures, c.read-2.ensures)
