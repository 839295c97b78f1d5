-- Who stands in the way, over any test `way` of the positions below n: nobody but perhaps one. Assumes nothing.
use mathlib.Core.Path.{◌≡◌}
use mathlib.Core.Bool.{Bool, true, false, not, ◌||◌, or-true}
use Prim.Native.Nat.{ℕ, ◌+◌, ◌≤◌, ◌<◌}
use native.Mathlib.Omega.{arith}
use native.Mathlib.Decide.{ℕ_discrete, dec_lt}
use lib.Dec.{eqb}
use borrow.Author.Tests.{eq-eqb, ne_eqb}
use Rattle.ground.specs.Lists.{span, every}
use Rattle.ground.proofs.Spans.{every_true, every_false}

-- the first position from `from` on at which h holds, or n
pub record First (h : ℕ → Bool) (from n r : ℕ) : Type 0 where
  pub low : from ≤ r
  pub high : r ≤ n
  pub passed : (k : ℕ) → from ≤ k → k < r → h k ≡ false
  pub hit : r < n → h r ≡ true

module _ (n : ℕ) (way : ℕ → Bool) where
  -- nobody but perhaps the one at i
  abbrev pub FreeBut : ℕ → Bool
  FreeBut i = every (λ k. eqb k i || not (way k)) (span 0 n)

  pub free_but : (i a : ℕ) → First way 0 n a → n ≤ a → FreeBut i ≡ true
  free_but i a f past = every_true _ n 0 (λ k lo hi. rw (f.passed k lo (omega arith)) (or-true (eqb k i)))

  pub other : (i k : ℕ) → k < n → (k ≡ i → ⊥) → way k ≡ true → FreeBut i ≡ false
  other i k h ne hit = every_false _ n 0 k (omega arith) (omega arith) (rw (ne_eqb k i ne, hit))

  module _ (a : ℕ) (first : First way 0 n a) (within : a < n) (b : ℕ) (second : First way (a + 1) n b) where
    -- two stand in the way: whoever goes, one is left
    pub two : b < n → (i : ℕ) → FreeBut i ≡ false
    two inside i =
        elim (ℕ_discrete a i) [
          | yes e ↦ other i b inside (λ q. omega (arith, second.low)) (second.hit inside)
          | no ne ↦ other i a within ne (first.hit within)
        ]

    -- just the one at a
    pub one : n ≤ b → FreeBut a ≡ true
    one past = every_true _ n 0 (λ k lo hi. go k hi (ℕ_discrete k a) (dec_lt k a))
      where
        go : (k : ℕ) → k < 0 + n → Dec (k ≡ a) → Dec (k < a) → (eqb k a || not (way k)) ≡ true
        go k hi (yes e) d = rw (eq-eqb k a e)
        go k hi (no ne) (yes l) = rw (first.passed k (omega arith) l) (or-true (eqb k a))
        go k hi (no ne) (no nl) = rw (second.passed k (omega arith) (omega arith)) (or-true (eqb k a))
