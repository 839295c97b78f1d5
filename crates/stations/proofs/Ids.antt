-- Lists of stations whose ids ascend: an id stands at one place, or would stand there. Assumes nothing.
use mathlib.Core.Path.{◌≡◌, refl, sym, ap, ◌∙◌}
use mathlib.Core.Logic.{⊎_elim}
use mathlib.Core.Bool.{true, false, cond, ◌||◌}
use mathlib.Core.List.Memᴰ
use mathlib.Core.List.{List, [], ◌∷◌}
use Prim.Native.Nat.{ℕ, suc, ◌≤◌, ◌<◌}
use native.Mathlib.Omega.{arith}
use native.Mathlib.Decide.{ℕ_discrete, dec_lt}
use lib.Dec.{eqb, leb}
use borrow.Author.Tests.{eq-eqb, ne_eqb, eqb-true, le-leb, lt-leb}
use Rattle.ground.specs.Guard.{given}
use Rattle.ground.specs.Lists.{◌∈◌, some, first}
use Rattle.ground.proofs.Guards.{or_was}
use Rattle.ground.proofs.Cases.{either}
use Rattle.ground.proofs.Order.{Ascending, By, ahead_of, rest_of}
use Rattle.ground.proofs.Positions.{none_in}
use Rattle.stations.specs.Lists.{has_id, from_id, with_id}
use Rattle.stations.specs.declared.Station.{Station}

-- each id is below the later ones
abbrev pub Ascends : List Station → Type 0
Ascends ss = Ascending (By (λ (r : Station). r.id)) ss

-- ---- where an id stands

-- not after an id that is not below it
pub absent_after : (id : ℕ) (x : Station) (xs : List Station) → Ascends (x ∷ xs) → id ≤ x.id → some (has_id id) xs ≡ false
absent_after id x xs a h = (none_in (has_id id) xs).1 (λ y m. ne_eqb y.id id (λ e. omega (arith, ahead_of a y m)))

-- the record with an id is the first whose id is not below
pub first_id : (id : ℕ) (ss : List Station) → Ascends ss → some (has_id id) ss ≡ true → first (has_id id) ss ≡ first (from_id id) ss
unfolding some first
first_id id [] a h = refl
first_id id (r ∷ rs) a h = go (ℕ_discrete r.id id) (dec_lt r.id id) h (first_id id rs (rest_of a)) (absent_after id r rs a)
  where
    go : Dec (r.id ≡ id) → Dec (r.id < id) → (eqb r.id id || some (has_id id) rs) ≡ true
        → (some (has_id id) rs ≡ true → first (has_id id) rs ≡ first (from_id id) rs)
        → (id ≤ r.id → some (has_id id) rs ≡ false)
        → cond (eqb r.id id) 0 (suc (first (has_id id) rs)) ≡ cond (leb id r.id) 0 (suc (first (from_id id) rs))
    go (yes e) l h ih out = rw (eq-eqb r.id id e, le-leb id r.id (omega arith))
    go (no ne) (yes l) h ih out =
        let k : some (has_id id) rs ≡ true = rw (ne_eqb r.id id ne) at h in
        rw (ne_eqb r.id id ne, lt-leb id r.id l) (ap suc (ih k))
    go (no ne) (no m) h ih out =
        let k : some (has_id id) rs ≡ true = rw (ne_eqb r.id id ne) at h in
        let f : true ≡ false = sym k ∙ out (omega arith) in
        let z : ◌≡◌ {A = ℕ} 0 1 = cc in
        absurd (omega arith)

-- ---- the record with an id

module _ {A : Type 0} (id : ℕ) (none : A) (one : Station → A) where
  -- none has it
  pub with_none : (ss : List Station) → some (has_id id) ss ≡ false → with_id id ss none one ≡ none
  unfolding with_id given some
  with_none [] e = refl
  with_none (x ∷ xs) e =
      let w = or_was (eqb x.id id) (some (has_id id) xs) e in
      rw w.0 (with_none xs w.1)

  -- one has it, and no other
  pub with_one : (x : Station) (ss : List Station) → Ascends ss → x.id ≡ id → x ∈ ss → with_id id ss none one ≡ one x
  unfolding with_id given
  with_one x [] a own m = absurd (Memᴰ.not-nil m)
  with_one x (y ∷ ys) a own m =
      ⊎_elim (λ (q : x ≡ y). let k : y.id ≡ id = rw q at own in rw (q, eq-eqb y.id id k))
      (λ (n : x ∈ ys). rw (ne_eqb y.id id (λ k. omega (arith, ahead_of a x n))) (with_one x ys (rest_of a) own n)) (Memᴰ.cases_cons m)

  -- one has it, since what is said of there being none is not what came out
  pub with_found : (ss : List Station) (z : A) → with_id id ss none one ≡ z → (none ≡ z → ⊥) → (x : Station) × (x.id ≡ id) × (x ∈ ss) × (one x ≡ z)
  unfolding with_id
  with_found [] z e out = absurd (out e)
  with_found (x ∷ xs) z e out =
      let more = with_found xs z in
      either (λ (a : A). a ≡ z → (y : Station) × (y.id ≡ id) × (y ∈ (x ∷ xs)) × (one y ≡ z)) (eqb x.id id) (one x) (with_id id xs none one)
      (λ h f. (x, eqb-true x.id id h, Memᴰ.head refl, f)) (λ h f. let m = more f out in (m.0, m.1, Memᴰ.tail m.2, m.3)) e

-- two records with one id are one
pub one_id : (id : ℕ) (x y : Station) (ss : List Station) → Ascends ss → x.id ≡ id → y.id ≡ id → x ∈ ss → y ∈ ss → x ≡ y
one_id id x y ss a p q m n = sym (with_one id x (λ z. z) x ss a p m) ∙ with_one id x (λ z. z) y ss a q n
