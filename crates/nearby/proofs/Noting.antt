-- A walk that notes the numbers that pass a test, one after the other. Assumes nothing.
use mathlib.Core.Path.{◌≡◌, sym, ap, ◌∙◌}
use mathlib.Core.Bool.{Bool, true, false}
use mathlib.Core.List.{List, [], ◌∷◌, ◌++◌, append-nil, append_assoc}
use Prim.Native.Nat.{ℕ, zero, suc, ◌+◌, ◌-◌, ◌≤◌, ◌<◌}
use native.Mathlib.Nat.{add-zero}
use native.Mathlib.Numerals.{add-one}
use native.Mathlib.Omega.{arith}
use lib.ListN.{length, length-append}
use Rattle.ground.specs.Lists.{span, keep}
use Rattle.ground.proofs.Spans.{span_cons, span-done}

-- what is noted of the numbers below i, and those from i to n that pass, are all that pass
pub record Noting (p : ℕ → Bool) (n : ℕ) (noted : List ℕ) (i : ℕ) : Type 0 where
  pub upto : i ≤ n
  pub few : length noted ≤ i
  pub holds : noted ++ keep p (span i (n - i)) ≡ keep p (span 0 n)

pub note-start : (p : ℕ → Bool) (n : ℕ) → Noting p n [] 0
note-start p n =
    let z : n - 0 ≡ n = omega arith in
    record { upto = omega arith; few = omega arith; holds = ap (λ (m : ℕ). keep p (span 0 m)) z }

-- numbers that do not pass, left out
keep_skip : (p : ℕ → Bool) (n d i : ℕ) → i + d ≤ n → ((j : ℕ) → i ≤ j → j < i + d → p j ≡ false) → keep p (span i (n - i)) ≡ keep p (span (i + d) (n - (i + d)))
unfolding keep
keep_skip p n zero i h f = rw add-zero
keep_skip p n (suc d) i h f =
    let e : suc i + d ≡ i + suc d = omega arith in
    let q : keep p (span i (n - i)) ≡ keep p (span (suc i) (n - suc i)) = rw (span_cons i n (omega arith), f i (omega arith) (omega arith)) in
    q
    ∙ keep_skip p n d (suc i) (omega arith) (λ j l u. f j (omega arith) (omega arith))
    ∙ ap (λ (m : ℕ). keep p (span m (n - m))) e

module _ {p : ℕ → Bool} {n : ℕ} where
  pub note_skip : {noted : List ℕ} {i : ℕ} (to : ℕ) → i ≤ to → to ≤ n → ((j : ℕ) → i ≤ j → j < to → p j ≡ false) → Noting p n noted i → Noting p n noted to
  note_skip {noted} {i} to h l f w =
      let e : i + (to - i) ≡ to = omega arith in
      let q : keep p (span i (n - i)) ≡ keep p (span to (n - to)) =
      keep_skip p n (to - i) i (omega arith) (λ j a u. f j a (omega arith)) ∙ ap (λ (m : ℕ). keep p (span m (n - m))) e in
      record { upto = l; few = omega (arith, w.few); holds = ap (λ (m : List ℕ). noted ++ m) (sym q) ∙ w.holds }

  -- one that passes is noted
  pub note_turn : {noted : List ℕ} {i : ℕ} → i < n → p i ≡ true → Noting p n noted i → Noting p n (noted ++ (i ∷ [])) (i + 1)
  unfolding keep
  note_turn {noted} {i} h e w =
      let r : List ℕ = keep p (span (suc i) (n - suc i)) in
      let q : keep p (span i (n - i)) ≡ i ∷ r = rw (span_cons i n h, e) in
      record {
        upto = omega arith;
        few = omega (arith, w.few, length-append noted (i ∷ []));
        holds =
            rw (add-one i, append_assoc noted (i ∷ []) r)
            (ap (λ (l : List ℕ). noted ++ l) (sym q) ∙ w.holds);
      }

  pub note_end : {noted : List ℕ} → Noting p n noted n → noted ≡ keep p (span 0 n)
  unfolding keep
  note_end {noted} w =
      let e : keep p (span n (n - n)) ≡ [] = ap (keep p) (span-done n n (omega arith)) in
      sym (append-nil noted) ∙ ap (λ (l : List ℕ). noted ++ l) (sym e) ∙ w.holds
