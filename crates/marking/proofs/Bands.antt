-- The channels that one station reaches: bands around its own, and 53 and 54 away on both sides. Assumes nothing.
use mathlib.Core.Path.{◌≡◌, refl, sym, ◌∙◌}
use mathlib.Core.Bool.{Bool, true, false, ◌&&◌, ◌||◌, or-true, or-false, and-true, and-false, or_assoc}
use mathlib.Core.Logic.{◌⊎◌, inl, inr, ⊎_elim}
use Prim.Native.Nat.{ℕ, ◌+◌, ◌-◌, ◌≤◌, ◌<◌}
use native.Mathlib.Omega.{arith}
use native.Mathlib.Decide.{ℕ_discrete, dec_lt}
use lib.Dec.{leb, ltb, eqb}
use borrow.Author.Tests.{lt-ltb, le-leb, eq-eqb, leb-true, ltb-true, eqb-true}
use Rattle.ground.proofs.Guards.{and_was, or_first}
use Rattle.ground.proofs.Tests.{iff}
use Rattle.part73.specs.Columns.{gap}
use Rattle.part73.proofs.Facts.{column_none}
use Rattle.spacing.specs.Reaching.{hits}
use Rattle.spacing.specs.declared.Reach.{Reach}
use Rattle.marking.specs.Marks.{Touches}
use Rattle.marking.specs.declared.Channels.{Channels}

-- ---- tests

never : (a : Bool) → (a ≡ true → ⊥) → a ≡ false
never true f = absurd (f refl)
never false f = refl

either : (a b : Bool) → (a || b) ≡ true → (a ≡ true) ⊎ (b ≡ true)
either true b e = inl refl
either false b e = inr e

or_last : (a b : Bool) → b ≡ true → (a || b) ≡ true
or_last a b e = rw e (or-true a)

-- ---- a band, channel by channel

within : (low high x : ℕ) → low ≤ x → x ≤ high → (leb low x && leb x high) ≡ true
within low high x a b = rw (le-leb low x a, le-leb x high b)

outside : (low high m : ℕ) → (low ≤ m → m ≤ high → ⊥) → (leb low m && leb m high) ≡ false
outside low high m f =
    never (leb low m && leb m high)
    (λ q. let h = and_was (leb low m) (leb m high) q in f (leb-true low m h.0) (leb-true m high h.1))

-- ---- the bands of one station

module _ (c : ℕ) (r : Reach) (low : 201 ≤ c) (most : r.steps ≤ 4) where
  abbrev w : ℕ
  w = r.steps

  abbrev beside : ℕ → Bool
  beside m = leb (c + 1 - w) m && leb m (c + w - 1)

  abbrev below : ℕ → Bool
  below m = leb (c - 54) m && leb m (c - 53)

  abbrev above : ℕ → Bool
  above m = leb (c + 53) m && leb m (c + 54)

  beside_is : (m : ℕ) → beside m ≡ ltb (gap m c) w
  unfolding gap
  beside_is m =
      iff (beside m) (ltb (gap m c) w)
      (λ q. let h = and_was (leb (c + 1 - w) m) (leb m (c + w - 1)) q in lt-ltb (gap m c) w (omega (arith, leb-true (c + 1 - w) m h.0, leb-true m (c + w - 1) h.1)))
      (λ q. let h = ltb-true (gap m c) w q in within (c + 1 - w) (c + w - 1) m (omega arith) (omega arith))

  sides : (m : ℕ) → (below m || above m) ≡ (eqb (gap m c) 53 || eqb (gap m c) 54)
  unfolding gap
  sides m =
      iff (below m || above m) (eqb (gap m c) 53 || eqb (gap m c) 54)
      (λ q. ⊎_elim
      (λ p. let h = and_was (leb (c - 54) m) (leb m (c - 53)) p in pick (omega (arith, leb-true (c - 54) m h.0, leb-true m (c - 53) h.1)) (omega (arith, leb-true (c - 54) m h.0, leb-true m (c - 53) h.1)) (ℕ_discrete (gap m c) 53))
      (λ p. let h = and_was (leb (c + 53) m) (leb m (c + 54)) p in pick (omega (arith, leb-true (c + 53) m h.0, leb-true m (c + 54) h.1)) (omega (arith, leb-true (c + 53) m h.0, leb-true m (c + 54) h.1)) (ℕ_discrete (gap m c) 53))
      (either (below m) (above m) q))
      (λ q. ⊎_elim
      (λ p. let e = eqb-true (gap m c) 53 p in side (omega arith) (omega arith) (dec_lt m c))
      (λ p. let e = eqb-true (gap m c) 54 p in side (omega arith) (omega arith) (dec_lt m c))
      (either (eqb (gap m c) 53) (eqb (gap m c) 54) q))
    where
      pick : 53 ≤ gap m c → gap m c ≤ 54 → Dec (gap m c ≡ 53) → (eqb (gap m c) 53 || eqb (gap m c) 54) ≡ true
      pick a b (yes e) = or_first (eqb (gap m c) 53) (eqb (gap m c) 54) (eq-eqb (gap m c) 53 e)
      pick a b (no ne) = or_last (eqb (gap m c) 53) (eqb (gap m c) 54) (eq-eqb (gap m c) 54 (omega arith))

      side : 53 ≤ gap m c → gap m c ≤ 54 → Dec (m < c) → (below m || above m) ≡ true
      side a b (yes l) = or_first (below m) (above m) (within (c - 54) (c - 53) m (omega arith) (omega arith))
      side a b (no nl) = or_last (below m) (above m) (within (c + 53) (c + 54) m (omega arith) (omega arith))

  pub apart_1 : (m : ℕ) → below m ≡ true → beside m ≡ false
  apart_1 m q =
      let h = and_was (leb (c - 54) m) (leb m (c - 53)) q in
      let a = leb-true m (c - 53) h.1 in
      outside (c + 1 - w) (c + w - 1) m (λ x y. omega arith)

  pub apart_2 : (m : ℕ) → above m ≡ true → (beside m || below m) ≡ false
  apart_2 m q =
      let h = and_was (leb (c + 53) m) (leb m (c + 54)) q in
      let a = leb-true (c + 53) m h.0 in
      rw (outside (c + 1 - w) (c + w - 1) m (λ x y. omega arith)) (outside (c - 54) (c - 53) m (λ x y. omega arith))

  pub bands_beside : (m : ℕ) → r.far ≡ false → beside m ≡ hits r (gap m c)
  bands_beside m e =
      beside_is m ∙ rw (e, and-false (eqb (gap m c) 53 || eqb (gap m c) 54)) (sym (or-false (ltb (gap m c) w)))

  pub bands_all : (m : ℕ) → r.far ≡ true → ((beside m || below m) || above m) ≡ hits r (gap m c)
  bands_all m e =
      or_assoc (beside m) (below m) (above m) ∙ rw (beside_is m, sides m, e, and-true (eqb (gap m c) 53 || eqb (gap m c) 54))

-- ---- a channel that has no requirement against any of a range

module _ (c : ℕ) (channels : Channels) where
  -- none where every difference in the range is over 3 and neither 53 nor 54
  pub untouched : (r : Bool) → (r ≡ false → (m : ℕ) → channels.first ≤ m → m ≤ channels.last → (3 < gap m c) × ((gap m c ≡ 53 → ⊥) × (gap m c ≡ 54 → ⊥))) → Touches c channels r
  untouched r f = record { none_of = λ q m a b. let h = f q m a b in column_none (gap m c) h.0 h.1.0 h.1.1 }
