-- Inside: a text that is told in pieces. Assumes nothing.
use Rattle.std.specs.Prelude.{◌≡◌, ℕ, List, ◌++◌, take, Result, IsOk, IsErr}
use Rattle.seal.specs.Seal.{Handed, Failed}
use Rattle.streams.specs.declared.Unwritten.{Unwritten}

-- what was handed over since the mark `before`, then what waits in the buffer, then
-- what is left, are the text.
pub record Telling (text : List ℕ) (before now : ℕ) (waits left : List ℕ) : Type 0 where
  pub done : List ℕ
  pub handed : Handed before done now
  pub parts : done ++ (waits ++ left) ≡ text

-- room is made in a buffer, and nothing that waits in it is lost or told twice
pub record Roomed (buffer : List ℕ) (at mark at' mark' : ℕ) (r : Result (Unit {0}) Unwritten) : Type 0 where
  pub kept : IsOk r → (text left : List ℕ) (before : ℕ) → Telling text before mark (take at buffer) left → Telling text before mark' (take at' buffer) left
  pub failed : IsErr r → Failed
