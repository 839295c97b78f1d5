-- A walk over numbers that passes some over: each of them is such as is said. Assumes nothing.
use Rattle.std.specs.Prelude.{ℕ, ◌≤◌, ◌<◌}

pub record Passing (such : ℕ → Type 0) (n from to : ℕ) : Type 0 where
  pub on : from ≤ to
  pub upto : to ≤ n
  pub each_one : (j : ℕ) → from ≤ j → j < to → such j
