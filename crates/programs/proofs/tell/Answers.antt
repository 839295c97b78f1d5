use mathlib.Core.Path.{◌≡◌, sym, ap}
use Rattle.std.specs.Prelude.{Result}
use mathlib.Core.List.{List}
use Prim.Native.Nat.{ℕ}
use Rattle.streams.specs.Tells.{Tells}
use Rattle.streams.specs.declared.Unwritten.{Unwritten}
use Rattle.streams.proofs.Pieces.{tells_as}
use Rattle.programs.specs.Printed.{printed_by}
use Rattle.programs.specs.declared.Program.{Program}
use Rattle.programs.proofs.tell.Goals as goal

-- the program that was named
by : {p q : Program} (input : List ℕ) {a b : ℕ} {r : Result (Unit {0}) Unwritten} → p ≡ q → Tells (printed_by q input) a b r → Tells (printed_by p input) a b r
by input e t = tells_as (sym (ap (λ (x : Program). printed_by x input) e)) t

pub returns-in-Check : goal.returns-in-Check
unfolding printed_by
returns-in-Check c = by _ c.in-Check.is c.check.ensures

pub returns-in-Arrange : goal.returns-in-Arrange
unfolding printed_by
returns-in-Arrange c = by _ c.in-Arrange.is c.arrange.ensures

pub returns-in-Change : goal.returns-in-Change
unfolding printed_by
returns-in-Change c = by _ c.in-Change.is c.change.ensures

pub returns-in-Study : goal.returns-in-Study
unfolding printed_by
returns-in-Study c = by _ c.in-Study.is c.study.ensures

pub returns-in-Reason : goal.returns-in-Reason
unfolding printed_by
returns-in-Reason c = by _ c.in-Reason.is c.reason.ensures
