-- What a function that puts a line into a buffer promises. Assumes nothing.
use Rattle.std.specs.Prelude.{◌≡◌, List, ℕ}
use Rattle.ground.specs.Writing.{Wrote}
use Rattle.lines.specs.declared.buffer.Text.{Text}

-- the line stands behind what was in the buffer, which is still the same
pub record Puts (line : List ℕ) (old new : Text) : Type 0 where
  pub wrote : Wrote line old.bytes.now old.at new.bytes.now new.at
  pub same_reference : new.bytes.ghost_name ≡ old.bytes.ghost_name
