-- Who stands in a list, and where. Assumes nothing.
use mathlib.Core.Path.{◌≡◌, refl, sym, ap, ◌∙◌}
use mathlib.Core.Logic.{◌↔◌, ⊎_elim}
use mathlib.Core.Bool.{Bool, true, false, not, ◌&&◌, ◌||◌}
use mathlib.Core.List.Memᴰ
use mathlib.Core.List.{List, [], ◌∷◌}
use Prim.Native.Nat.{ℕ, zero, suc, ◌<◌}
use native.Mathlib.Omega.{arith}
use lib.ListN.{length, drop}
use Rattle.ground.specs.Lists.{◌∈◌, build, some, every}
use borrow.Author.Tests.{not-true}
use Rattle.ground.proofs.Guards.{not_was}
use Rattle.ground.proofs.Keeps.{every_in}
use Rattle.ground.proofs.Order.{Ascending, ahead_of, rest_of}

module _ {A : Type 0} where
  -- one of a list has a position
  pub position : {x : A} (l : List A) → x ∈ l → (i : ℕ) × (i < length l) × (rest : List A) × (drop i l ≡ x ∷ rest)
  position [] m = absurd (Memᴰ.not-nil m)
  position {x} (y ∷ l) m =
      ⊎_elim (λ (q : x ≡ y). (0, omega arith, l, rw q)) (λ (n : x ∈ l). let p = position l n in let h = p.1 in (suc p.0, omega arith, p.2, p.3)) (Memᴰ.cases_cons m)

  -- and who has a position is one of the list
  pub in_at : {x : A} (l : List A) (i : ℕ) (rest : List A) → drop i l ≡ x ∷ rest → x ∈ l
  in_at [] zero rest e = let z : ◌≡◌ {A = ℕ} 0 1 = cc in absurd (omega arith)
  in_at [] (suc i) rest e = let z : ◌≡◌ {A = ℕ} 0 1 = cc in absurd (omega arith)
  in_at {x} (y ∷ l) zero rest e = let q : x ≡ y = cc in Memᴰ.head q
  in_at (y ∷ l) (suc i) rest e = Memᴰ.tail (in_at l i rest e)

  -- one of a function's first n values
  pub in_build : {x : A} (n : ℕ) (f : ℕ → A) → x ∈ build n f → (i : ℕ) × (i < n) × (x ≡ f i)
  unfolding build
  in_build zero f m = absurd (Memᴰ.not-nil m)
  in_build {x} (suc n) f m =
      ⊎_elim (λ (q : x ≡ f zero). (0, omega arith, q)) (λ (o : x ∈ build n (λ i. f (suc i))). let p = in_build n (λ i. f (suc i)) o in let h = p.1 in (suc p.0, omega arith, p.2)) (Memᴰ.cases_cons m)

  -- one passes a test exactly where not each fails it
  some_every : (p : A → Bool) (l : List A) → some p l ≡ not (every (λ x. not (p x)) l)
  unfolding some every
  some_every p [] = refl
  some_every p (y ∷ l) = rw (some_every p l) (go (p y))
    where
      go : (b : Bool) → (b || not (every (λ x. not (p x)) l)) ≡ not (not b && every (λ x. not (p x)) l)
      go true = refl
      go false = refl

  -- none passes a test exactly when each fails it
  pub none_in : (p : A → Bool) (l : List A) → (some p l ≡ false) ↔ ((x : A) → x ∈ l → p x ≡ false)
  none_in p l = (
    λ e x m. not-true _ ((every_in (λ x. not (p x)) l).0 (not_was _ (sym (some_every p l) ∙ e)) x m),
    λ h. some_every p l ∙ ap not ((every_in (λ x. not (p x)) l).1 (λ x m. ap not (h x m))),
  )

  -- in a list that ascends an earlier one stands before a later one
  pub ascending_at : {before : A → A → Type 0} (l : List A) (i j : ℕ) {x y : A} (a b : List A) → Ascending before l → i < j → drop i l ≡ x ∷ a → drop j l ≡ y ∷ b → before x y
  ascending_at [] zero j a b o h e f = let z : ◌≡◌ {A = ℕ} 0 1 = cc in absurd (omega arith)
  ascending_at [] (suc i) j a b o h e f = let z : ◌≡◌ {A = ℕ} 0 1 = cc in absurd (omega arith)
  ascending_at (z ∷ l) i zero a b o h e f = absurd (omega arith)
  ascending_at (z ∷ l) zero (suc j) {x} {y} a b o h e f = let q : z ≡ x = cc in rw q at (ahead_of o y (in_at l j b f))
  ascending_at (z ∷ l) (suc i) (suc j) a b o h e f = ascending_at l i j a b (rest_of o) (omega arith) e f
