-- The first of a list that passes a test: where it stands, and whether there is one. Assumes nothing.
use mathlib.Core.Path.{◌≡◌, refl, sym}
use mathlib.Core.Bool.{Bool, true, false, cond, ◌||◌}
use mathlib.Core.List.{List, [], ◌∷◌}
use Prim.Native.Nat.compare
use Prim.Native.Nat.{ℕ, zero, suc, ◌≤◌, ◌<◌}
use native.Mathlib.Omega.{arith}
use lib.Dec.{ltb}
use lib.ListN.{length, drop}
use borrow.Author.Tests.{lt-ltb}
use Rattle.ground.specs.Lists.{some, first}

module _ {A : Type 0} (p : A → Bool) where
  pub first_le : (xs : List A) → first p xs ≤ length xs
  unfolding first
  first_le [] = omega arith
  first_le (x ∷ xs) = go (p x) (first_le xs)
    where
      go : (b : Bool) → first p xs ≤ length xs → cond b 0 (suc (first p xs)) ≤ suc (length xs)
      go true h = omega arith
      go false h = omega arith

  -- the one at the place passes
  pub first_found : (xs : List A) (x : A) (rest : List A) → drop (first p xs) xs ≡ x ∷ rest → p x ≡ true
  unfolding first
  first_found [] x rest e = let z : ◌≡◌ {A = ℕ} 0 1 = cc in absurd (omega arith)
  first_found (y ∷ xs) x rest e = go (p y) refl e (first_found xs x rest)
    where
      go : (b : Bool) → p y ≡ b → drop (cond b 0 (suc (first p xs))) (y ∷ xs) ≡ x ∷ rest → (drop (first p xs) xs ≡ x ∷ rest → p x ≡ true) → p x ≡ true
      go true h e ih = let same : y ≡ x = cc in rw same at h
      go false h e ih = ih e

  -- one before it does not
  pub first_past : (xs : List A) (i : ℕ) (x : A) (rest : List A) → drop i xs ≡ x ∷ rest → i < first p xs → p x ≡ false
  unfolding first
  first_past [] i x rest e l = absurd (omega arith)
  first_past (y ∷ xs) i x rest e l = go (p y) i refl e l (λ j. first_past xs j x rest)
    where
      go : (b : Bool) (i : ℕ) → p y ≡ b → drop i (y ∷ xs) ≡ x ∷ rest → i < cond b 0 (suc (first p xs))
          → ((j : ℕ) → drop j xs ≡ x ∷ rest → j < first p xs → p x ≡ false) → p x ≡ false
      go true i h e l ih = absurd (omega arith)
      go false zero h e l ih = let same : y ≡ x = cc in rw same at h
      go false (suc i) h e l ih = ih i e (omega arith)

  -- there is one exactly when the place is within the list
  pub some_first : (xs : List A) → some p xs ≡ ltb (first p xs) (length xs)
  unfolding some first
  some_first [] = refl
  some_first (x ∷ xs) = go (p x) (some_first xs)
    where
      go : (b : Bool) → some p xs ≡ ltb (first p xs) (length xs) → (b || some p xs) ≡ ltb (cond b 0 (suc (first p xs))) (suc (length xs))
      go true h = sym (lt-ltb 0 (suc (length xs)) (omega arith))
      go false h = rw compare.suc-suc h

  -- one that passes
  pub some_at : (xs : List A) (i : ℕ) (x : A) (rest : List A) → drop i xs ≡ x ∷ rest → p x ≡ true → some p xs ≡ true
  unfolding some
  some_at [] zero x rest e h = let z : ◌≡◌ {A = ℕ} 0 1 = cc in absurd (omega arith)
  some_at [] (suc i) x rest e h = let z : ◌≡◌ {A = ℕ} 0 1 = cc in absurd (omega arith)
  some_at (y ∷ xs) zero x rest e h = let same : y ≡ x = cc in rw (same, h)
  some_at (y ∷ xs) (suc i) x rest e h = go (p y) (some_at xs i x rest e h)
    where
      go : (b : Bool) → some p xs ≡ true → (b || some p xs) ≡ true
      go true k = refl
      go false k = k
