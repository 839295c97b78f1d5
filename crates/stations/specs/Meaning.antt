-- 02, R-7, in the owner's words: what the refusal 27 says of a table. Assumes nothing.
use Rattle.std.specs.Prelude.{◌≡◌, List, ℕ, ◌<◌, Ok}
use Rattle.repeats.specs.Repeats.{FirstRepeat}
use Rattle.stations.specs.Image.{count, scanned, twins_at, Headed}

-- nothing else is wrong with the table, and the record at i is its first that agrees with an earlier one
pub record Repeats (s : List ℕ) (i : ℕ) : Type 0 where
  pub headed : Headed s
  pub sound : scanned s ≡ (Ok tt)
  pub within : i < count s
  -- no record before it agrees with an earlier one, and an earlier one agrees with it
  pub first : FirstRepeat (twins_at s) (count s) i
