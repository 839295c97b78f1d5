-- What a mark says: nobody, one alone, or several stand in the way. Assumes nothing.
use mathlib.Core.Path.{◌≡◌, refl, sym, ap, ◌∙◌, subst}
use mathlib.Core.Bool.{Bool, true, false, cond, ◌||◌}
use Prim.Native.Nat.{ℕ, zero, suc, ◌+◌, ◌-◌, ◌≤◌, ◌<◌}
use native.Mathlib.Numerals.{add-one}
use native.Mathlib.Omega.{arith}
use native.Mathlib.Decide.{ℕ_discrete}
use lib.Dec.{eqb}
use borrow.Author.Tests.{eq-eqb, ne_eqb}
use Rattle.marking.specs.Marks.{many, join, seen}
use Rattle.planning.specs.Flags.{Mark, Lone}
use Rattle.planning.proofs.Single.{First, FreeBut, free_but, one, two, other}

-- the mark of the first n positions, by who of them stands in the way
pub data Tally (way : ℕ → Bool) (n : ℕ) : ℕ → Type 0 where
  nobody : First way 0 n n → Tally way n 0
  lone : (a : ℕ) → a < n → First way 0 n a → First way (a + 1) n n → Tally way n (suc a)
  several : (a b : ℕ) → a < n → First way 0 n a → First way (a + 1) n b → b < n → Tally way n many

module _ (way : ℕ → Bool) where
  -- one position more
  none_more : (from i : ℕ) → ((k : ℕ) → from ≤ k → k < i → way k ≡ false) → way i ≡ false → (k : ℕ) → from ≤ k → k < suc i → way k ≡ false
  none_more from i all here k lo hi = elim (ℕ_discrete k i) [ yes e ↦ ap way e ∙ here | no ne ↦ all k lo (omega arith) ]

  longer : (from n : ℕ) → from ≤ n → First way from n n → way n ≡ false → First way from (suc n) (suc n)
  longer from n l f e =
      record { low = omega arith; high = omega arith; passed = λ k lo hi. none_more from n f.passed e k lo hi; hit = λ h. absurd (omega arith) }

  later : (from n a : ℕ) → a < n → First way from n a → First way from (suc n) a
  later from n a l f = record { low = f.low; high = omega arith; passed = f.passed; hit = λ h. f.hit l }

  at_end : (from n : ℕ) → First way from n n → way n ≡ true → First way from (suc n) n
  at_end from n f e = record { low = f.low; high = omega arith; passed = f.passed; hit = λ h. e }

  none_left : (n : ℕ) → First way (n + 1) (suc n) (suc n)
  none_left n = record { low = omega arith; high = omega arith; passed = λ k lo hi. absurd (omega arith); hit = λ h. absurd (omega arith) }

  join_some : (a n : ℕ) → join (suc a) n ≡ many
  unfolding join
  join_some a n = rw (ne_eqb (suc a) 0 (λ q. omega arith))

  step : (n v : ℕ) → Tally way n v → (t : Bool) → way n ≡ t → Tally way (suc n) (cond t (join v n) v)
  unfolding join
  step n v (nobody f) false e = nobody (longer 0 n (omega arith) f e)
  step n v (nobody f) true e = subst (Tally way (suc n)) (sym (add-one n)) (lone n (omega arith) (at_end 0 n f e) (none_left n))
  step n v (lone a l f g) false e = lone a (omega arith) (later 0 n a l f) (longer (a + 1) n (omega arith) g e)
  step n v (lone a l f g) true e =
      subst (Tally way (suc n)) (sym (join_some a n)) (several a n (omega arith) (later 0 n a l f) (at_end (a + 1) n g e) (omega arith))
  step n v (several a b l f g h) false e = several a b (omega arith) (later 0 n a l f) (later (a + 1) n b h g) (omega arith)
  step n v (several a b l f g h) true e = several a b (omega arith) (later 0 n a l f) (later (a + 1) n b h g) (omega arith)

  pub tally : (n : ℕ) → Tally way n (seen way n)
  unfolding seen
  tally zero = nobody (record { low = omega arith; high = omega arith; passed = λ k lo hi. absurd (omega arith); hit = λ h. absurd (omega arith) })
  tally (suc n) = step n (seen way n) (tally n) (way n) refl

  pub mark_of_lem : (n v : ℕ) → Tally way n v → Mark n v
  mark_of_lem n v (nobody f) ne = omega arith
  mark_of_lem n v (lone a l f g) ne = omega arith
  mark_of_lem n v (several a b l f g h) ne = absurd (ne refl)

  -- the one that a mark is of stands in the way
  pub lone_hit : (n v : ℕ) → Lone v → Tally way n v → way (v - 1) ≡ true
  lone_hit n v o (nobody f) = absurd (omega arith)
  lone_hit n v o (lone a l f g) = let e : suc a - 1 ≡ a = omega arith in rw e (f.hit l)
  lone_hit n v o (several a b l f g h) = absurd (omega arith)

  -- nobody but perhaps the one at i, by the mark
  pub but_mark : (n i v : ℕ) → n < many → i < n → Tally way n v → FreeBut n way i ≡ (eqb v 0 || eqb v (suc i))
  but_mark n i v few h (nobody f) = free_but n way i n f (omega arith)
  but_mark n i v few h (lone a l f g) = go (ℕ_discrete a i)
    where
      go : Dec (a ≡ i) → FreeBut n way i ≡ (eqb (suc a) 0 || eqb (suc a) (suc i))
      go (yes e) = rw (← e, ne_eqb (suc a) 0 (λ q. omega arith), eq-eqb (suc a) (suc a) refl) (one n way a f l n g (omega arith))
      go (no ne) = rw (ne_eqb (suc a) 0 (λ q. omega arith), ne_eqb (suc a) (suc i) (λ q. ne (omega arith))) (other n way i a l ne (f.hit l))
  but_mark n i v few h (several a b l f g k) = two n way a f l b g k i ∙ sym (ne_eqb many (suc i) (λ q. omega arith))
