-- What the pair rule needs of a table of separations in km, by two classes and a column. Assumes nothing.
use Rattle.std.specs.Prelude.{◌≡◌, ℕ, suc, ◌≤◌, ◌<◌}
use Rattle.part73.specs.Columns.{none}

pub record Separations (km : ℕ → ℕ → ℕ → ℕ) : Type 0 where
  -- the pair of classes has no order
  pub either : (a b c : ℕ) → km a b c ≡ km b a c
  -- no entry is 0
  pub above : (a b c : ℕ) → a < 8 → b < 8 → c < 4 → 0 < km a b c
  -- there is none past the fourth column
  pub ends : (a b : ℕ) → a < 8 → b < 8 → km a b none ≡ 0
  -- the columns of a row fall strictly
  pub falls : (a b c : ℕ) → a < 8 → b < 8 → c < 3 → km a b (suc c) < km a b c
  -- against the last class a class keeps the most
  pub widest : (a b : ℕ) → a < 8 → b < 8 → km a b 0 ≤ km a 7 0
  -- none is over 290
  pub most : (a b c : ℕ) → a < 8 → b < 8 → c < 4 → km a b c ≤ 290
