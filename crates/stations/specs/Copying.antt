-- Inside: what a copy asks of the bytes and of the buffer that is lent. Assumes nothing.
use Rattle.std.specs.Prelude.{List, ℕ, ◌+◌, ◌≤◌, length}

-- so many bytes of the table from a place on, and room for them in the image
pub record Copies (table : List ℕ) (from : ℕ) (image : List ℕ) (to count : ℕ) : Type 0 where
  pub source : from + count ≤ length table
  pub room : to + count ≤ length image
