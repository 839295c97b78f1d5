-- The first position that repeats an earlier one is what the facts say, and no other is. Assumes nothing.
use mathlib.Core.Path.{◌≡◌, refl, sym, ◌∙◌}
use mathlib.Core.Bool.{Bool, true, false, cond, true≢false}
use Prim.Native.Nat.{ℕ, zero, suc, ◌+◌, ◌≤◌, ◌<◌}
use native.Mathlib.Nat.{zero-add}
use native.Mathlib.Omega.{arith}
use native.Mathlib.Decide.{ℕ_discrete, dec_lt}
use lib.ListN.{length}
use borrow.Author.Tests.{ltb-true}
use Rattle.ground.specs.Lists.{span, some, first}
use Rattle.ground.proofs.Order.{in_span}
use Rattle.ground.proofs.Positions.{none_in}
use Rattle.ground.proofs.Firsts.{some_first}
use Rattle.ground.proofs.Spans.{length-span}
use Rattle.repeats.specs.Repeats.{repeats_at, first_repeat, FirstRepeat}

-- r of the n numbers from a on fail a test, and the one after them, where there is one, passes
pub record Reached (p : ℕ → Bool) (a n r : ℕ) : Type 0 where
  pub upto : r ≤ n
  pub failed : (i : ℕ) → a ≤ i → i < a + r → p i ≡ false
  pub passed : r < n → p (a + r) ≡ true

reached : (p : ℕ → Bool) (n a : ℕ) → Reached p a n (first p (span a n))
unfolding span first
reached p zero a = record { upto = omega arith; failed = λ i h k. absurd (omega arith); passed = λ h. absurd (omega arith) }
reached p (suc n) a = go (p a) refl (reached p n (suc a))
  where
    r : ℕ
    r = first p (span (suc a) n)

    go : (b : Bool) → p a ≡ b → Reached p (suc a) n r → Reached p a (suc n) (cond b 0 (suc r))
    go true e w = let z : a + 0 ≡ a = omega arith in record { upto = omega arith; failed = λ i h k. absurd (omega arith); passed = λ h. rw z e }
    go false e w =
        let z : a + suc r ≡ suc a + r = omega arith in
        record {
          upto = omega (arith, w.upto);
          failed = λ i h k. elim (ℕ_discrete a i) [ yes q ↦ rw (← q) e | no ne ↦ w.failed i (omega arith) (omega arith) ];
          passed = λ h. rw z (w.passed (omega arith));
        }

module _ (same : ℕ → ℕ → Bool) where
  pub first_is : (n : ℕ) → FirstRepeat same n (first_repeat same n)
  unfolding first_repeat repeats_at
  first_is n =
      let w = reached (repeats_at same) n 0 in
      record {
        upto = w.upto;
        before = λ i h j k. (none_in (same i) (span 0 i)).0 (w.failed i (omega arith) (omega (arith, h))) j ((in_span j i 0).1 (omega arith, omega arith));
        earlier = λ h.
            let r = first (repeats_at same) (span 0 n) in
            let found : some (same r) (span 0 r) ≡ true = rw zero-add at (w.passed h) in
            let v = reached (same r) r 0 in
            let j = first (same r) (span 0 r) in
            let l : j < r = rw length-span at (ltb-true j (length (span 0 r)) (sym (some_first (same r) (span 0 r)) ∙ found)) in
            (j, l, rw zero-add at (v.passed l));
      }

  -- there is one such position
  pub one_first : {n r q : ℕ} → FirstRepeat same n r → FirstRepeat same n q → r ≡ q
  one_first {n} {r} {q} v w = elim (dec_lt r q) [ yes h ↦ absurd (not_before v w h) | no h ↦ elim (dec_lt q r) [ yes k ↦ absurd (not_before w v k) | no k ↦ omega arith ] ]
    where
      not_before : {r q : ℕ} → FirstRepeat same n r → FirstRepeat same n q → r < q → ⊥
      not_before {r} {q} v w h =
          let e = v.earlier (omega (arith, w.upto)) in
          true≢false (sym e.2 ∙ w.before r h e.0 e.1)
