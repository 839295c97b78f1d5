-- What a buffer holds after a run of writes.
-- Assumes nothing.
use Rattle.std.specs.Prelude.{ℕ, ◌+◌, List, ◌≡◌, length}
use Rattle.std.proofs.lemmas.List.Edits.{sets}

-- vs is stored from `at` on (what would be past the end is lost), and r is the place after it
pub record Wrote (vs entry : List ℕ) (at : ℕ) (exit : List ℕ) (r : ℕ) : Type 0 where
  pub next : r ≡ at + length vs
  pub stored : exit ≡ sets entry at vs
