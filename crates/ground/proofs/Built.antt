-- A list of a function's first n values: its length, the one at an index, and what is left of it from an index on; and the one at an
-- index of a list that is mapped. Assumes nothing.
use mathlib.Core.Path.{◌≡◌, refl, ap}
use mathlib.Core.List.{List, [], ◌∷◌, map}
use Prim.Native.Nat.{ℕ, zero, suc, ◌<◌}
use native.Mathlib.Nat.{le_of_suc-le-suc, not-suc-le-zero}
use lib.ListN.{length, get_or, drop}
use Rattle.ground.specs.Lists.{build}

module _ {A : Type 0} where
  pub length-build : (n : ℕ) (f : ℕ → A) → length (build n f) ≡ n
  unfolding build
  length-build zero f = refl
  length-build (suc n) f = ap suc (length-build n (λ i. f (suc i)))

  pub get_or-build : (n : ℕ) (f : ℕ → A) (i : ℕ) (d : A) → i < n → get_or (build n f) i d ≡ f i
  unfolding build
  get_or-build zero f i d h = absurd (not-suc-le-zero h)
  get_or-build (suc n) f zero d h = refl
  get_or-build (suc n) f (suc i) d h = get_or-build n (λ i. f (suc i)) i d (le_of_suc-le-suc h)

  pub drop-build : (n : ℕ) (f : ℕ → A) (i : ℕ) → i < n → drop i (build n f) ≡ f i ∷ drop (suc i) (build n f)
  unfolding build
  drop-build zero f i h = absurd (not-suc-le-zero h)
  drop-build (suc n) f zero h = refl
  drop-build (suc n) f (suc i) h = drop-build n (λ i. f (suc i)) i (le_of_suc-le-suc h)

pub get_or-map : {A B : Type 0} (f : A → B) (l : List A) (i : ℕ) (d : A) (e : B) → i < length l → get_or (map f l) i e ≡ f (get_or l i d)
get_or-map f [] i d e h = absurd (not-suc-le-zero h)
get_or-map f (x ∷ l) zero d e h = refl
get_or-map f (x ∷ l) (suc i) d e h = get_or-map f l i d e (le_of_suc-le-suc h)
