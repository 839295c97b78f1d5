-- What a function that reads or writes promises: which bytes came in, and which it hands over. Assumes nothing.
use Rattle.std.specs.Prelude.{ℕ, List, Result, IsOk, IsErr}
use Rattle.streams.specs.declared.Unwritten.{Unwritten}
pub use Rattle.seal.specs.Seal.{Came, Handed, Failed}

-- between two marks exactly this text was handed over; or a write failed
pub record Tells (text : List ℕ) (before after : ℕ) (r : Result (Unit {0}) Unwritten) : Type 0 where
  pub told : IsOk r → Handed before text after
  pub failed : IsErr r → Failed
