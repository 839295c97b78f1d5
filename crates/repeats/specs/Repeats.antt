-- 02, R-7: the first of n positions that repeats an earlier one, whatever it is to repeat. Assumes nothing.
use Rattle.std.specs.Prelude.{◌≡◌, Bool, true, false, ℕ, ◌≤◌, ◌<◌}
use Rattle.ground.specs.Lists.{span, some, first}

-- it repeats an earlier one
unfoldable pub repeats_at : (ℕ → ℕ → Bool) → ℕ → Bool
repeats_at same i = some (same i) (span 0 i)

-- the first that does; n where none does
unfoldable pub first_repeat : (ℕ → ℕ → Bool) → ℕ → ℕ
first_repeat same n = first (repeats_at same) (span 0 n)

-- the same in facts
pub record FirstRepeat (same : ℕ → ℕ → Bool) (n r : ℕ) : Type 0 where
  pub upto : r ≤ n
  -- none before it does
  pub before : (i : ℕ) → i < r → (j : ℕ) → j < i → same i j ≡ false
  -- an earlier one is the same as it
  pub earlier : r < n → (j : ℕ) × (j < r) × (same r j ≡ true)
