-- Lists by enumeration: the numbers of a range, what a function gives at each, those that pass a test.
-- Assumes nothing.
use Rattle.std.specs.Prelude.{ℕ, zero, suc, Bool, true, false, cond, ◌&&◌, ◌||◌}
use mathlib.Core.List.{List, [], ◌∷◌, ◌++◌, Memᴰ}

-- the n numbers from a on
unfoldable pub span : ℕ → ℕ → List ℕ
span a zero = []
span a (suc n) = a ∷ span (suc a) n

-- x stands in the list
infix 4 ◌∈◌
abbrev pub ◌∈◌ : {A : Type 0} → A → List A → Type 0
x ∈ l = Memᴰ x l

module _ {A : Type 0} where
  -- a function's first n values
  unfoldable pub build : ℕ → (ℕ → A) → List A
  build zero f = []
  build (suc n) f = f zero ∷ build n (λ i. f (suc i))

  -- those that pass p, in order
  unfoldable pub keep : (A → Bool) → List A → List A
  keep p [] = []
  keep p (x ∷ xs) = cond (p x) (x ∷ keep p xs) (keep p xs)

  -- all pass p
  unfoldable pub every : (A → Bool) → List A → Bool
  every p [] = true
  every p (x ∷ xs) = p x && every p xs

  -- one passes p
  unfoldable pub some : (A → Bool) → List A → Bool
  some p [] = false
  some p (x ∷ xs) = p x || some p xs

  -- the position of the first that passes p; the length where none does
  unfoldable pub first : (A → Bool) → List A → ℕ
  first p [] = 0
  first p (x ∷ xs) = cond (p x) 0 (suc (first p xs))

-- what f gives at each, one after the other
unfoldable pub each : {A B : Type 0} → (A → List B) → List A → List B
each f [] = []
each f (x ∷ xs) = f x ++ each f xs
