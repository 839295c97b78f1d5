-- Rows of three numbers, and the numbers of a list of rows one after the other.
-- Assumes nothing.
use Rattle.std.specs.Prelude.{ℕ, List, [], ◌∷◌}

pub record Row : Type 0 where
  pub a : ℕ
  pub b : ℕ
  pub c : ℕ

abbrev pub row : ℕ → ℕ → ℕ → Row
row x y z = record { a = x; b = y; c = z }

unfoldable pub flat : List Row → List ℕ
flat [] = []
flat (r ∷ rs) = r.a ∷ r.b ∷ r.c ∷ flat rs
