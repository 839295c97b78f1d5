-- How far two stations reach along the channels, by S and four squares that fall. Assumes nothing.
use mathlib.Core.Path.{◌≡◌, refl, sym, ap, ◌∙◌}
use mathlib.Core.Bool.{false}
use Prim.Native.Nat.{ℕ, zero, suc, ◌^◌, ◌≤◌, ◌<◌}
use native.Mathlib.Omega.{arith}
use native.Mathlib.Decide.{ℕ_discrete, dec_lt}
use lib.Dec.{ltb, lit<}
use borrow.Author.Tests.{lt-ltb, le-ltb, eq-eqb, ne_eqb}
use Rattle.ground.specs.Guard.{given}
use Rattle.ground.proofs.Guards.{or_alone}
use Rattle.distance.specs.Distance.{S, D}
use Rattle.part73.specs.Columns.{gap, column}
use Rattle.part73.specs.Separations.{Separations}
use Rattle.part73.proofs.Facts.{column-low, column_53, column_54, column_none}
use Rattle.spacing.specs.Pair.{separation, square_of, distance_of, short_by}
use Rattle.squares.specs.Squares.{limit_of}
use Rattle.spacing.specs.Limits.{LimitsAt, square_at, Falling, Under}
use Rattle.spacing.specs.Reaching.{InRange, hits, Reaches}
use Rattle.spacing.specs.declared.Limits.{Limits}
use Rattle.spacing.specs.declared.Place.{Place}
use Rattle.spacing.specs.declared.Reach.{Reach}
use Rattle.spacing.proofs.Rule.{for_open, S_small, by_limit, by_none, limits_fall}

-- ---- the columns below whose square s lies

module _ {square : ℕ → ℕ} (f : Falling square) where
  f0 : square 1 ≤ square 0
  f0 = f.on 0 (lit< tt)

  f1 : square 2 ≤ square 1
  f1 = f.on 1 (lit< tt)

-- so many steps, and the last column by its square
abbrev told : (ℕ → ℕ) → ℕ → ℕ → Reach
told square s n = record { steps = n; far = ltb s (square 3) }

module _ {square : ℕ → ℕ} {s : ℕ} where
  -- all that has to be told
  under : (n : ℕ) → n ≤ 4 → ltb 0 n ≡ ltb s (square 0) → ltb 1 n ≡ ltb s (square 1) → ltb 2 n ≡ ltb s (square 2) → ltb 3 n ≡ ltb s (square 2) → Under square s (told square s n)
  unfolding column given
  under n m e0 e1 e2 e3 = record { most = m; low = go; last = refl }
    where
      go : (d : ℕ) → d ≤ 3 → ltb d n ≡ ltb s (square (column d))
      go zero h = e0
      go (suc zero) h = e1
      go (suc (suc zero)) h = e2
      go (suc (suc (suc zero))) h = e3
      go (suc (suc (suc (suc d)))) h = absurd (omega arith)

  module _ (f : Falling square) where
    pub under_0 : square 0 ≤ s → Under square s (told square s 0)
    under_0 h =
        let a = f0 f in
        let b = f1 f in
        under _ (omega arith) (sym (le-ltb s (square 0) h)) (sym (le-ltb s (square 1) (omega arith))) (sym (le-ltb s (square 2) (omega arith))) (sym (le-ltb s (square 2) (omega arith)))

    pub under_1 : s < square 0 → square 1 ≤ s → Under square s (told square s 1)
    under_1 l h =
        let b = f1 f in
        under _ (omega arith) (sym (lt-ltb s (square 0) l)) (sym (le-ltb s (square 1) h)) (sym (le-ltb s (square 2) (omega arith))) (sym (le-ltb s (square 2) (omega arith)))

    pub under_2 : s < square 1 → square 2 ≤ s → Under square s (told square s 2)
    under_2 l h =
        let a = f0 f in
        under _ (omega arith) (sym (lt-ltb s (square 0) (omega arith))) (sym (lt-ltb s (square 1) l)) (sym (le-ltb s (square 2) h)) (sym (le-ltb s (square 2) h))

    pub under_4 : s < square 2 → Under square s (told square s 4)
    under_4 l =
        let a = f0 f in
        let b = f1 f in
        under _ (omega arith) (sym (lt-ltb s (square 0) (omega arith))) (sym (lt-ltb s (square 1) (omega arith))) (sym (lt-ltb s (square 2) l)) (sym (lt-ltb s (square 2) l))

-- ---- at each difference

module _ {km : ℕ → ℕ → ℕ → ℕ} (table : Separations km) where
  -- D below R, by what is reached
  by_under : (a b s : ℕ) (r : Reach) → a < 8 → b < 8 → s < 2 ^ 64 → Under (λ c. limit_of (km a b c)) s r → (d : ℕ) → ltb (D s) (km a b (column d)) ≡ hits r d
  by_under a b s r ha hb h u d = go (dec_lt 3 d) (ℕ_discrete d 53) (ℕ_discrete d 54)
    where
      limit : column d < 4 → ltb (D s) (km a b (column d)) ≡ ltb s (limit_of (km a b (column d)))
      limit = by_limit table a b ha hb s (column d) h

      last : column d ≡ 3 → ltb (D s) (km a b (column d)) ≡ r.far
      last e = limit (omega arith) ∙ (ap (λ (c : ℕ). ltb s (limit_of (km a b c))) e ∙ sym u.last)

      over : 3 < d → ltb d r.steps ≡ false
      over l = le-ltb d r.steps (omega (arith, u.most))

      low : d ≤ 3 → ltb (D s) (km a b (column d)) ≡ hits r d
      low l =
          limit (omega (arith, column-low d l))
          ∙ sym (u.low d l)
          ∙ rw (ne_eqb d 53 (λ e. omega arith), ne_eqb d 54 (λ e. omega arith)) (sym (or_alone (ltb d r.steps)))

      go : Dec (3 < d) → Dec (d ≡ 53) → Dec (d ≡ 54) → ltb (D s) (km a b (column d)) ≡ hits r d
      go (no n) x y = low (omega arith)
      go (yes l) (yes e) y = last (column_53 d e) ∙ rw (over l, eq-eqb d 53 e)
      go (yes l) (no n) (yes e) = last (column_54 d e) ∙ rw (over l, ne_eqb d 53 n, eq-eqb d 54 e)
      go (yes l) (no n) (no m) =
          let z : ltb (D s) (km a b (column d)) ≡ false = rw (column_none d l n m) (by_none table a b ha hb s) in
          z ∙ rw (over l, ne_eqb d 53 n, ne_eqb d 54 m)

  module _ {p q : Place} {limits : Limits} (w : LimitsAt km p limits) (mine : InRange p) (their : InRange q) where
    pub falling : Falling (square_at limits q.class)
    falling =
        record { on = λ c h. rw (w.square q.class (suc c) their.known (omega arith), w.square q.class c their.known (omega arith)) (limits_fall table p.class q.class mine.known their.known c h) }

    -- by the squares that the limits have
    pub reaches : {r : Reach} → Under (square_at limits q.class) (S p.latitude p.longitude q.latitude q.longitude) r → Reaches km p q r
    unfolding short_by separation distance_of square_of
    reaches {r} u =
        record {
          most = u.most;
          tells = λ x y e. rw (for_open x y e) (by_under p.class q.class s r mine.known their.known (S_small p q mine their) known (gap x y));
        }
      where
        s : ℕ
        s = S p.latitude p.longitude q.latitude q.longitude

        known : Under (λ c. limit_of (km p.class q.class c)) s r
        known =
            record {
              most = u.most;
              low = λ d h. u.low d h ∙ ap (ltb s) (w.square q.class (column d) their.known (omega (arith, column-low d h)));
              last = u.last ∙ ap (ltb s) (w.square q.class 3 their.known (lit< tt));
            }
