-- Bytes are the same by their number, whichever byte comes first in it. Assumes nothing.
use mathlib.Core.Path.{◌≡◌, refl, ap, ◌∙◌}
use mathlib.Core.Logic.{◌↔◌}
use mathlib.Core.List.{List}
use Prim.Native.Nat.{ℕ, zero, suc, ◌+◌, ◌*◌, ◌<◌}
use native.Mathlib.Nat.{add-zero}
use native.Mathlib.Numerals.{add-one}
use native.Mathlib.Omega.{arith}
use native.Mathlib.Decide.{ℕ_discrete}
use lib.ListN.{get_or}
use Rattle.wire.specs.Be.{Bytes, be}
use Rattle.wire.specs.Le.{le}

pub none_low : (s : List ℕ) (at : ℕ) → 0 ≡ le 0 s at
unfolding le
none_low s at = refl

-- a number begins with the byte that counts least
pub next_low : (k : ℕ) (s : List ℕ) (at : ℕ) → le (k + 1) s at ≡ le k s (at + 1) * 256 + get_or s at 0
unfolding le
next_low k s at = rw add-one

module _ (s : List ℕ) where
  byte : (i j : ℕ) → i ≡ j → get_or s i 0 ≡ get_or s j 0
  byte i j e = ap (λ (k : ℕ). get_or s k 0) e

  -- two bytes
  pub two-low : (at : ℕ) → le 2 s at ≡ get_or s (at + 1) 0 * 256 + get_or s at 0
  unfolding le
  two-low at = omega arith

  pub two-high : (at : ℕ) → be 2 s at ≡ get_or s at 0 * 256 + get_or s (at + 1) 0
  unfolding be
  two-high at = omega (arith, byte (at + 0) at (add-zero at))

  module _ (b : Bytes s) where
    -- the same k bytes stand at two places
    abbrev Same : ℕ → ℕ → ℕ → Type 0
    Same k a c = (i : ℕ) → i < k → get_or s (a + i) 0 ≡ get_or s (c + i) 0

    low_same : (k a c : ℕ) → le k s a ≡ le k s c → Same k a c
    unfolding le
    low_same zero a c e i h = absurd (omega arith)
    low_same (suc k) a c e zero h = omega (arith, byte (a + 0) a (add-zero a), byte (c + 0) c (add-zero c), b a, b c)
    low_same (suc k) a c e (suc i) h =
        let rest : le k s (a + 1) ≡ le k s (c + 1) = omega (arith, b a, b c) in
        byte (a + suc i) (a + 1 + i) (omega arith) ∙ low_same k (a + 1) (c + 1) rest i (omega arith) ∙ byte (c + 1 + i) (c + suc i) (omega arith)

    same_low : (k a c : ℕ) → Same k a c → le k s a ≡ le k s c
    unfolding le
    same_low zero a c h = refl
    same_low (suc k) a c h =
        let rest : le k s (a + 1) ≡ le k s (c + 1) =
        same_low k (a + 1) (c + 1) (λ i g. byte (a + 1 + i) (a + suc i) (omega arith) ∙ h (suc i) (omega arith) ∙ byte (c + suc i) (c + 1 + i) (omega arith)) in
        omega (arith, byte (a + 0) a (add-zero a), byte (c + 0) c (add-zero c), h 0 (omega arith))

    high_same : (k a c : ℕ) → be k s a ≡ be k s c → Same k a c
    unfolding be
    high_same zero a c e i h = absurd (omega arith)
    high_same (suc k) a c e i h =
        let rest : be k s a ≡ be k s c = omega (arith, b (a + k), b (c + k)) in
        let last : get_or s (a + k) 0 ≡ get_or s (c + k) 0 = omega (arith, b (a + k), b (c + k)) in
        elim (ℕ_discrete i k) [ yes q ↦ rw q last | no ne ↦ high_same k a c rest i (omega arith) ]

    same_high : (k a c : ℕ) → Same k a c → be k s a ≡ be k s c
    unfolding be
    same_high zero a c h = refl
    same_high (suc k) a c h = omega (arith, same_high k a c (λ i g. h i (omega arith)), h k (omega arith))

    -- so by the one number exactly where by the other
    pub one_number : (k a c : ℕ) → (le k s a ≡ le k s c) ↔ (be k s a ≡ be k s c)
    one_number k a c = (λ e. same_high k a c (low_same k a c e), λ e. same_low k a c (high_same k a c e))
