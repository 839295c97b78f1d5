-- What a program promises: of the bytes that came in it handed over exactly what is to be printed, from its first mark on; or a
-- write failed. Assumes nothing.
use Rattle.std.specs.Prelude.{List, ℕ, ◌≤◌, length, Result}
use Rattle.streams.specs.Tells.{Came, Tells}
use Rattle.streams.specs.declared.Unwritten.{Unwritten}

pub record Ran (printed : List ℕ → List ℕ) (r : Result (Unit {0}) Unwritten) : Type 0 where
  pub input : List ℕ
  pub came : Came input
  pub within : length input ≤ 65536
  pub mark : ℕ
  pub tells : Tells (printed input) 0 mark r
