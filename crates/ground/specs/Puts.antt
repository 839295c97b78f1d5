-- What a function that writes rows behind those of a buffer promises. Assumes nothing.
use Rattle.std.specs.Prelude.{◌≡◌, List, ℕ}
use Rattle.ground.specs.Writing.{Wrote}
use Rattle.ground.specs.declared.Rows.{Rows}

-- the numbers stand behind what was in the buffer, which is still the same
pub record Puts (numbers : List ℕ) (old new : Rows) : Type 0 where
  pub wrote : Wrote numbers old.buffer.now old.at new.buffer.now new.at
  pub same_reference : new.buffer.ghost_name ≡ old.buffer.ghost_name
