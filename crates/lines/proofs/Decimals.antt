-- The fewest digits that hold a number are its decimal text. Assumes nothing.
use mathlib.Core.Path.{◌≡◌, ap, subst}
use mathlib.Core.List.{List, [], ◌∷◌, ◌++◌}
use Prim.Native.Nat.{ℕ, zero, suc, ◌+◌, ◌-◌, ◌*◌, ◌/◌, ◌%◌, ◌^◌, ◌≤◌, ◌<◌}
use native.Mathlib.Nat.{pow-suc, mod-lt, one-le-pow, pow-le-pow_right, le-div_iff_mul-le, div-lt_iff_lt-mul}
use native.Mathlib.Decide.{dec_lt}
use native.Mathlib.Omega.{arith}
use borrow.Author.Tests.{lt-ltb, le-ltb}
use Rattle.io.specs.Digits.{hex_digit_ascii, last_digits, IsDigitCount}
use Rattle.lines.specs.Lines.{digits_of, decimal}

-- a digit below 10 is one of `0` to `9`
figure : (n : ℕ) → hex_digit_ascii (n % 10) ≡ 48 + n % 10
figure n = rw (lt-ltb (n % 10) 10 (mod-lt n (omega arith)))

same : (k j n : ℕ) → n < 10 ^ suc k → (0 < k → 10 ^ k ≤ n) → k < j → last_digits 10 (suc k) n ≡ digits_of j n
unfolding digits_of
same k zero n h l m = absurd (omega arith)
same zero (suc j) n h l m =
    let b : n < 10 = omega (arith, h) in
    rw (lt-ltb n 10 b, figure n)
same (suc k) (suc j) n h l m =
    let p : 10 ^ suc k ≡ 10 ^ k * 10 = pow-suc 10 k in
    let q : 10 ^ suc (suc k) ≡ 10 ^ suc k * 10 = pow-suc 10 (suc k) in
    let o : 1 ≤ 10 ^ k = one-le-pow k 10 (omega arith) in
    let least : 10 ^ suc k ≤ n = l (omega arith) in
    let low : n / 10 < 10 ^ suc k = (div-lt_iff_lt-mul {k = 10} (omega arith)).1 (subst (λ (x : ℕ). n < x) q h) in
    let high : 10 ^ k ≤ n / 10 = (le-div_iff_mul-le {k = 10} (omega arith)).1 (subst (λ (x : ℕ). x ≤ n) p least) in
    let ten : 10 ≤ n = omega arith in
    let e : last_digits 10 (suc k) (n / 10) ≡ digits_of j (n / 10) = same k j (n / 10) low (λ z. high) (omega arith) in
    rw (le-ltb n 10 ten, figure n) (ap (λ (t : List ℕ). t ++ ((48 + n % 10) ∷ [])) e)

-- a number of 32 bits has at most ten digits
pub ten_digits : (n k : ℕ) → n < 4294967296 → IsDigitCount 10 1 n k → k ≤ 10
ten_digits n zero h f = omega arith
ten_digits n (suc k) h f = go k f.2
  where
    go : (k : ℕ) → (1 < suc k → 10 ^ (suc k - 1) ≤ n) → suc k ≤ 10
    go k l = elim (dec_lt 9 k) [ yes m ↦ absurd (over m) | no m ↦ omega arith ]
      where
        over : 9 < k → ⊥
        over m =
            let a : 10 ^ (suc k - 1) ≤ n = l (omega arith) in
            let b : 10 ^ 10 ≤ 10 ^ (suc k - 1) = pow-le-pow_right {n = 10} (omega arith) {i = 10} {j = suc k - 1} (omega arith) in
            omega arith

pub text : (n k : ℕ) → n < 4294967296 → IsDigitCount 10 1 n k → last_digits 10 k n ≡ decimal n
unfolding decimal
text n zero h f = absurd (omega (arith, f.0))
text n (suc k) h f =
    same k 10 n f.1 (λ z. subst (λ (x : ℕ). 10 ^ x ≤ n) (less k) (f.2 (omega arith))) (omega (arith, ten_digits n (suc k) h f))
  where
    less : (k : ℕ) → suc k - 1 ≡ k
    less k = omega arith
