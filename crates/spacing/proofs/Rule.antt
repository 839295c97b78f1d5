-- The pair rule by the column of two channels and by squared limits, over any table of separations. Assumes nothing.
use mathlib.Core.Path.{◌≡◌, refl, sym, ap, ◌∙◌}
use mathlib.Core.Bool.{Bool, true, false, and-false}
use mathlib.Core.Logic.{◌⊎◌, inl, inr}
use Prim.Native.Nat.{ℕ, zero, suc, ◌-◌, ◌*◌, ◌^◌, ◌≤◌, ◌<◌}
use native.Mathlib.Nat.{le_trans, mul-le-mul, lt_of_le_of_lt}
use native.Mathlib.Omega.{arith}
use native.Mathlib.Decide.{ℕ_discrete, dec_lt}
use lib.Dec.{leb, ltb, lit<}
use borrow.Author.Tests.{le-ltb, le-leb, lt-leb}
use Rattle.ground.proofs.Guards.{here, on}
use Rattle.distance.specs.Distance.{S, D}
use Rattle.distance.proofs.Rounding.{short_test}
use Rattle.distance.proofs.Squares.{S-size}
use Rattle.part73.specs.Columns.{gap, none, column}
use Rattle.part73.specs.Separations.{Separations}
use Rattle.part73.proofs.Facts.{column-low, column_53, column_54, column_none}
use Rattle.spacing.specs.Pair.{sited, exempt, column_for, separation, square_of, distance_of, short_by}
use Rattle.squares.specs.Squares.{limit_of, limit_for}
use Rattle.squares.proofs.Rule.{past_columns, within}
use Rattle.spacing.specs.Reaching.{InRange}
use Rattle.spacing.specs.declared.Place.{Place}

-- ---- the column of two channels

pub column-most : (d : ℕ) → (column d ≡ none → ⊥) → column d < 4
column-most d f = go (dec_lt 3 d) (ℕ_discrete d 53) (ℕ_discrete d 54)
  where
    go : Dec (3 < d) → Dec (d ≡ 53) → Dec (d ≡ 54) → column d < 4
    go (no n) x y = omega (arith, column-low d (omega arith))
    go (yes l) (yes e) y = omega (arith, column_53 d e)
    go (yes l) (no n) (yes e) = omega (arith, column_54 d e)
    go (yes l) (no n) (no m) = absurd (f (column_none d l n m))

-- two channels that are not exempt
pub for_open : (x y : ℕ) → exempt x y ≡ false → column_for x y ≡ column (gap x y)
unfolding column_for
for_open x y e = sym (on _ _ _ e refl)

-- both at or below 220
pub for_exempt : (x y : ℕ) → exempt x y ≡ true → column_for x y ≡ none
unfolding column_for
for_exempt x y e = sym (here _ _ _ e refl)

pub exempt-low : (x y : ℕ) → x ≤ 220 → y ≤ 220 → exempt x y ≡ true
unfolding exempt
exempt-low x y h k = rw (le-leb x 220 h, le-leb y 220 k)

pub open_high : (x y : ℕ) → (220 < x) ⊎ (220 < y) → exempt x y ≡ false
unfolding exempt
open_high x y (inl h) = rw (lt-leb x 220 h)
open_high x y (inr h) = rw (lt-leb y 220 h, and-false (leb x 220))

-- a column applies to no exempt pair
pub for_some : (x y : ℕ) → (column_for x y ≡ none → ⊥) → exempt x y ≡ false
for_some x y f = go (exempt x y) refl
  where
    go : (b : Bool) → exempt x y ≡ b → exempt x y ≡ false
    go true e = absurd (f (for_exempt x y e))
    go false e = e

pub for_most : (x y : ℕ) → (column_for x y ≡ none → ⊥) → column_for x y < 4
for_most x y f = let e = for_open x y (for_some x y f) in rw e (column-most (gap x y) (λ q. f (e ∙ q)))

-- one of the four columns, or the mark of none
pub columns_only : (x y : ℕ) → column_for x y ≤ none
columns_only x y = go (ℕ_discrete (column_for x y) none)
  where
    go : Dec (column_for x y ≡ none) → column_for x y ≤ none
    go (yes e) = omega (arith, e)
    go (no n) = omega (arith, for_most x y n)

-- ---- S below the limit is D below R

pub S_small : (p q : Place) → InRange p → InRange q → S p.latitude p.longitude q.latitude q.longitude < 2 ^ 64
S_small p q i j = lt_of_le_of_lt (S-size i.placed j.placed) (lit< tt)

module _ {km : ℕ → ℕ → ℕ → ℕ} (table : Separations km) where
  module _ (a b : ℕ) (ha : a < 8) (hb : b < 8) where
    pub by_limit : (s c : ℕ) → s < 2 ^ 64 → c < 4 → ltb (D s) (km a b c) ≡ ltb s (limit_of (km a b c))
    unfolding limit_of
    by_limit s c h k = sym (short_test s (km a b c) h (table.above a b c ha hb k))

    pub by_none : (s : ℕ) → ltb (D s) (km a b none) ≡ false
    by_none s = le-ltb (D s) (km a b none) (omega (arith, table.ends a b ha hb))

    -- the limits of a row fall
    pub limits_fall : (c : ℕ) → c < 3 → limit_of (km a b (suc c)) ≤ limit_of (km a b c)
    unfolding limit_of
    limits_fall c h = let l : 10000 * km a b (suc c) - 5000 ≤ 10000 * km a b c - 5000 = omega (arith, table.falls a b c ha hb h) in mul-le-mul l l

    -- the first is the largest
    pub first_most : (c : ℕ) → c < 4 → limit_of (km a b c) ≤ limit_of (km a b 0)
    first_most zero h = omega arith
    first_most (suc c) h = le_trans (limits_fall c (omega arith)) (first_most c (omega arith))

  module _ (p q : Place) (mine : InRange p) (their : InRange q) where
    -- two stations to whose channels no column applies
    pub no_column : (x y : ℕ) → column_for x y ≡ none → short_by km (sited p x) (sited q y) ≡ false
    unfolding short_by separation distance_of
    no_column x y e = rw e (by_none p.class q.class mine.known their.known (square_of (sited p x) (sited q y)))

    -- two stations to whose channels one does: S below its limit
    pub at_limit : (x y : ℕ) → column_for x y < 4 → ltb (S p.latitude p.longitude q.latitude q.longitude) (limit_of (km p.class q.class (column_for x y))) ≡ short_by km (sited p x) (sited q y)
    unfolding short_by separation distance_of square_of
    at_limit x y h = sym (by_limit p.class q.class mine.known their.known _ (column_for x y) (S_small p q mine their) h)

    -- on any channels: short exactly when S is below the limit of the two classes at the column that applies, 0 where none does
    pub compares : (x y : ℕ) → short_by km (sited p x) (sited q y) ≡ ltb (S p.latitude p.longitude q.latitude q.longitude) (limit_for km p.class q.class (column_for x y))
    compares x y = go (ℕ_discrete (column_for x y) none)
      where
        s : ℕ
        s = S p.latitude p.longitude q.latitude q.longitude

        go : Dec (column_for x y ≡ none) → short_by km (sited p x) (sited q y) ≡ ltb s (limit_for km p.class q.class (column_for x y))
        go (yes e) = no_column x y e ∙ (sym (le-ltb s 0 (omega arith)) ∙ ap (ltb s) (past_columns km p.class q.class (column_for x y) (omega (arith, e))))
        go (no n) =
            let c = for_most x y n in
            sym (at_limit x y c) ∙ ap (ltb s) (within km p.class q.class (column_for x y) mine.known their.known c)

    -- two sites as far apart as the first limit
    pub far_clear : limit_of (km p.class q.class 0) ≤ S p.latitude p.longitude q.latitude q.longitude → (x y : ℕ) → short_by km (sited p x) (sited q y) ≡ false
    unfolding short_by separation distance_of square_of
    far_clear h x y = go (ℕ_discrete (column_for x y) none)
      where
        go : Dec (column_for x y ≡ none) → ltb (D (S p.latitude p.longitude q.latitude q.longitude)) (km p.class q.class (column_for x y)) ≡ false
        go (yes e) = rw e (by_none p.class q.class mine.known their.known (square_of (sited p x) (sited q y)))
        go (no n) =
            let c = for_most x y n in
            by_limit p.class q.class mine.known their.known _ (column_for x y) (S_small p q mine their) c
            ∙ le-ltb _ _ (le_trans (first_most p.class q.class mine.known their.known (column_for x y) c) h)
