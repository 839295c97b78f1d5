-- Those that pass a test: of a list that is mapped, of those that pass another test, and by who stands in the list.
-- Assumes nothing.
use mathlib.Core.Path.{◌≡◌, refl, sym, ap, ◌∙◌}
use mathlib.Core.Logic.{◌↔◌, ⊎_elim}
use mathlib.Core.Bool.{Bool, true, false, cond, not, ◌&&◌, ◌||◌}
use mathlib.Core.List.Memᴰ
use mathlib.Core.List.{List, [], ◌∷◌, ◌++◌, map}
use Prim.Native.Nat.{ℕ, zero, suc, ◌≤◌}
use native.Mathlib.Omega.{arith}
use lib.ListN.{length}
use Rattle.ground.specs.Lists.{◌∈◌, span, build, keep, every, each}
use Rattle.ground.proofs.Guards.{and_was, and_both}

-- ---- of a list that is mapped

module _ {A B : Type 0} (f : A → B) where
  pub keep-map : (p : B → Bool) (l : List A) → keep p (map f l) ≡ map f (keep (λ x. p (f x)) l)
  unfolding keep
  keep-map p [] = refl
  keep-map p (x ∷ l) = go (p (f x)) (keep-map p l)
    where
      go : (b : Bool) → keep p (map f l) ≡ map f (keep (λ x. p (f x)) l) → cond b (f x ∷ keep p (map f l)) (keep p (map f l)) ≡ map f (cond b (x ∷ keep (λ x. p (f x)) l) (keep (λ x. p (f x)) l))
      go true e = ap (λ (m : List B). f x ∷ m) e
      go false e = e

  pub every_map : (p : B → Bool) (l : List A) → every p (map f l) ≡ every (λ x. p (f x)) l
  unfolding every
  every_map p [] = refl
  every_map p (x ∷ l) = ap (λ (b : Bool). p (f x) && b) (every_map p l)

  pub each_map : {C : Type 0} (g : B → List C) (l : List A) → each g (map f l) ≡ each (λ x. g (f x)) l
  unfolding each
  each_map g [] = refl
  each_map {C} g (x ∷ l) = ap (λ (m : List C). g (f x) ++ m) (each_map g l)

  pub map-map : {C : Type 0} (g : B → C) (l : List A) → map g (map f l) ≡ map (λ x. g (f x)) l
  map-map g [] = refl
  map-map {C} g (x ∷ l) = ap (λ (m : List C). g (f x) ∷ m) (map-map g l)

-- a function's first n values, by the numbers before n
pub build-span : {A : Type 0} (n : ℕ) (f : ℕ → A) → build n f ≡ map f (span 0 n)
unfolding build span
build-span zero f = refl
build-span {A} (suc n) f = ap (λ (m : List A). f 0 ∷ m) (build-span n (λ i. f (suc i)) ∙ sym (on n 0))
  where
    on : (n a : ℕ) → map f (span (suc a) n) ≡ map (λ i. f (suc i)) (span a n)
    on zero a = refl
    on (suc n) a = ap (λ (m : List A). f (suc a) ∷ m) (on n (suc a))

-- ---- of those that pass another test

module _ {A : Type 0} (p : A → Bool) where
  pub keep-keep : (q : A → Bool) (l : List A) → keep q (keep p l) ≡ keep (λ x. p x && q x) l
  unfolding keep
  keep-keep q [] = refl
  keep-keep q (x ∷ l) = go (p x) (keep-keep q l)
    where
      go : (b : Bool) → keep q (keep p l) ≡ keep (λ x. p x && q x) l → keep q (cond b (x ∷ keep p l) (keep p l)) ≡ cond (b && q x) (x ∷ keep (λ x. p x && q x) l) (keep (λ x. p x && q x) l)
      go true e = rw e
      go false e = e

  pub every-keep : (q : A → Bool) (l : List A) → every q (keep p l) ≡ every (λ x. not (p x) || q x) l
  unfolding keep every
  every-keep q [] = refl
  every-keep q (x ∷ l) = go (p x) (every-keep q l)
    where
      go : (b : Bool) → every q (keep p l) ≡ every (λ x. not (p x) || q x) l → every q (cond b (x ∷ keep p l) (keep p l)) ≡ ((not b || q x) && every (λ x. not (p x) || q x) l)
      go true e = ap (λ (b : Bool). q x && b) e
      go false e = e

  pub each_keep : {B : Type 0} (g : A → List B) (l : List A) → each g (keep p l) ≡ each (λ x. cond (p x) (g x) []) l
  unfolding keep each
  each_keep g [] = refl
  each_keep {B} g (x ∷ l) = go (p x) (each_keep g l)
    where
      go : (b : Bool) → each g (keep p l) ≡ each (λ x. cond (p x) (g x) []) l → each g (cond b (x ∷ keep p l) (keep p l)) ≡ cond b (g x) [] ++ each (λ x. cond (p x) (g x) []) l
      go true e = ap (λ (m : List B). g x ++ m) e
      go false e = e

  pub length-keep : (l : List A) → length (keep p l) ≤ length l
  unfolding keep
  length-keep [] = omega arith
  length-keep (x ∷ l) = go (p x) (length-keep l)
    where
      go : (b : Bool) → length (keep p l) ≤ length l → length (cond b (x ∷ keep p l) (keep p l)) ≤ suc (length l)
      go true h = omega arith
      go false h = omega arith

-- ---- by who stands in the list

module _ {A : Type 0} where
  pub keep_all : (p : A → Bool) (l : List A) → ((x : A) → x ∈ l → p x ≡ true) → keep p l ≡ l
  unfolding keep
  keep_all p [] h = refl
  keep_all p (x ∷ l) h = rw (h x (Memᴰ.head refl), keep_all p l (λ y m. h y (Memᴰ.tail m)))

  pub keep_cong : (p q : A → Bool) (l : List A) → ((x : A) → x ∈ l → p x ≡ q x) → keep p l ≡ keep q l
  unfolding keep
  keep_cong p q [] h = refl
  keep_cong p q (x ∷ l) h = rw (h x (Memᴰ.head refl), keep_cong p q l (λ y m. h y (Memᴰ.tail m)))

  pub every_cong : (p q : A → Bool) (l : List A) → ((x : A) → x ∈ l → p x ≡ q x) → every p l ≡ every q l
  unfolding every
  every_cong p q [] h = refl
  every_cong p q (x ∷ l) h = rw (h x (Memᴰ.head refl), every_cong p q l (λ y m. h y (Memᴰ.tail m)))

  pub every_in : (p : A → Bool) (l : List A) → (every p l ≡ true) ↔ ((x : A) → x ∈ l → p x ≡ true)
  unfolding every
  every_in p [] = (λ e x m. absurd (Memᴰ.not-nil m), λ h. refl)
  every_in p (y ∷ l) = (
    λ e x m.
        let w = and_was (p y) (every p l) e in
        ⊎_elim (λ (q : x ≡ y). rw (q, w.0)) (λ (n : x ∈ l). (every_in p l).0 w.1 x n) (Memᴰ.cases_cons m),
    λ h. and_both (p y) (every p l) (h y (Memᴰ.head refl)) ((every_in p l).1 (λ x m. h x (Memᴰ.tail m))),
  )
