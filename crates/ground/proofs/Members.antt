-- A number is one of a range exactly when it lies in it. Assumes nothing.
use mathlib.Core.Path.{◌≡◌, refl}
use mathlib.Core.Bool.{true, false, ◌||◌}
use Prim.Native.Nat.{ℕ, zero, suc, ◌+◌, ◌≤◌, ◌<◌}
use native.Mathlib.Omega.{arith}
use native.Mathlib.Decide.{ℕ_discrete, dec_lt}
use lib.Arith.{lt_of_le-ne}
use lib.Dec.{eqb, leb}
use borrow.Author.Tests.{eq-eqb, ne_eqb, le-leb, lt-leb}
use Rattle.ground.specs.Lists.{span, some}

pub some_in : (x n a : ℕ) → a ≤ x → x < a + n → some (eqb x) (span a n) ≡ true
unfolding span some
some_in x zero a lo hi = absurd (omega arith)
some_in x (suc n) a lo hi = go (ℕ_discrete a x) (λ ne. some_in x n (suc a) (lt_of_le-ne lo ne) (omega arith))
  where
    go : Dec (a ≡ x) → ((a ≡ x → ⊥) → some (eqb x) (span (suc a) n) ≡ true) → (eqb x a || some (eqb x) (span (suc a) n)) ≡ true
    go (yes e) ih = rw (eq-eqb x a (omega arith))
    go (no ne) ih = rw (ne_eqb x a (λ q. ne (omega arith)), ih ne)

pub some_out : (x n a : ℕ) → (a ≤ x → x < a + n → ⊥) → some (eqb x) (span a n) ≡ false
unfolding span some
some_out x zero a out = refl
some_out x (suc n) a out = rw (ne_eqb x a (λ q. out (omega arith) (omega arith))) (some_out x n (suc a) (λ l h. out (omega arith) (omega arith)))

-- one from a on, by its upper end
pub some_from : (x n a : ℕ) → a ≤ x → leb x (a + n) ≡ some (eqb x) (span a (suc n))
some_from x n a lo = go (dec_lt (a + n) x)
  where
    go : Dec (a + n < x) → leb x (a + n) ≡ some (eqb x) (span a (suc n))
    go (yes h) = rw (lt-leb x (a + n) h, some_out x (suc n) a (λ l u. omega arith))
    go (no h) = rw (le-leb x (a + n) (omega arith), some_in x (suc n) a lo (omega arith))
