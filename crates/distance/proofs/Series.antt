-- The series: its terms never grow, so its sum is a natural number that is at most E. Assumes nothing.
use mathlib.Core.Path.{◌≡◌, refl, sym, ap, ◌∙◌, subst}
use Prim.Native.Nat.{ℕ, zero, suc, ◌+◌, ◌-◌, ◌*◌, ◌/◌, ◌≤◌}
use native.Mathlib.Nat.{le_refl, le_trans, mul-le-mul_left, mul-le-mul_right, mul-le-mul, div-le_of_le-mul}
use native.Mathlib.Numerals.{add-one}
use lib.Dec.{lit≤}
use native.Mathlib.Omega.{arith}
use lib.IntN.{ℤ, pos, nat_abs, ◌+ℤ◌, ◌-ℤ◌}
use Rattle.distance.specs.Distance.{E, next, t, series}
use Rattle.ground.proofs.Signed.{sub_pos}

-- the two products of a term
pub product : (t x : ℕ) → t ≤ E → x ≤ 1310000000 → t * x ≤ 1310000000000000000
product t x ht hx = le_trans (mul-le-mul_left t hx) (omega arith)

pub product2 : (t x : ℕ) → t ≤ E → x ≤ 1310000000 → t * x / E * x ≤ 1716100000000000000
product2 t x ht hx = le_trans (mul-le-mul_left (t * x / E) hx) (omega (arith, product t x ht hx))

-- a term is at most the one before it
pub next_le : (t x d : ℕ) → x ≤ 1310000000 → 2 ≤ d → next t x d ≤ t
next_le t x d hx hd = div-le_of_le-mul d (le_trans (omega (arith, mul-le-mul_left t hx, mul-le-mul_left (t * x / E) hx)) (mul-le-mul_right t hd))

-- how large a term can be, from the one before it
term-most : (t x d m a b : ℕ) → t ≤ m → x ≤ 1310000000 → m * 1310000000 / E ≤ a → a * 1310000000 / E ≤ d * b → next t x d ≤ b
term-most t x d m a b ht hx ha hb =
    let p : t * x ≤ m * 1310000000 = mul-le-mul ht hx in
    let q : t * x / E ≤ a = omega arith in
    let r : t * x / E * x ≤ a * 1310000000 = mul-le-mul q hx in
    let s : t * x / E * x / E ≤ d * b = omega arith in
    div-le_of_le-mul d s

-- an alternating sum of numbers that never grow, as a natural number
minus_plus : (z : ℤ) (a b c : ℕ) → z ≡ pos a → b ≤ a → z -ℤ pos b +ℤ pos c ≡ pos (a - b + c)
minus_plus z a b c e h = ap (λ (y : ℤ). y -ℤ pos b +ℤ pos c) e ∙ ap (λ (y : ℤ). y +ℤ pos c) (sub_pos a b h)

minus : (z : ℤ) (a b : ℕ) → z ≡ pos a → b ≤ a → z -ℤ pos b ≡ pos (a - b)
minus z a b e h = ap (λ (y : ℤ). y -ℤ pos b) e ∙ sub_pos a b h

-- the same sum over ℕ
abbrev pub sum : ℕ → ℕ
sum x = t x 0 - t x 1 + t x 2 - t x 3 + t x 4 - t x 5 + t x 6 - t x 7 + t x 8 - t x 9

pub t-falls : (x k : ℕ) → x ≤ 1310000000 → t x (suc k) ≤ t x k
unfolding t
t-falls x k hx = next_le (t x k) x ((2 * k + 1) * (2 * k + 2)) hx (le_trans (lit≤ tt) (mul-le-mul (one k) (two k)))
  where
    one : (k : ℕ) → 1 ≤ 2 * k + 1
    one k = omega arith

    two : (k : ℕ) → 2 ≤ 2 * k + 2
    two k = omega arith

-- the same as far as 2 n terms after the first
abbrev pub up_to : ℕ → ℕ → ℕ
up_to x zero = t x 0
up_to x (suc n) = up_to x n - t x (2 * n + 1) + t x (2 * n + 2)

pub up_to_next : (x n : ℕ) → up_to x (n + 1) ≡ up_to x n - t x (2 * n + 1) + t x (2 * n + 2)
up_to_next x n = rw add-one

pub first_term : (x : ℕ) → E ≡ t x 0
unfolding t
first_term x = refl

-- a term that is taken away, and one that is added, from the one before it
pub odd_term : (x k : ℕ) → next (t x (2 * k)) x ((4 * k + 1) * (4 * k + 2)) ≡ t x (2 * k + 1)
unfolding t
odd_term x k =
    let a : 4 * k + 1 ≡ 2 * (2 * k) + 1 = omega arith in
    let b : 4 * k + 2 ≡ 2 * (2 * k) + 2 = omega arith in
    let e : 2 * k + 1 ≡ suc (2 * k) = omega arith in
    rw (a, b, e)

pub even_term : (x k : ℕ) → next (t x (2 * k + 1)) x ((4 * k + 3) * (4 * k + 4)) ≡ t x (2 * k + 2)
unfolding t
even_term x k =
    let a : 4 * k + 3 ≡ 2 * (2 * k + 1) + 1 = omega arith in
    let b : 4 * k + 4 ≡ 2 * (2 * k + 1) + 2 = omega arith in
    let e : 2 * k + 2 ≡ suc (2 * k + 1) = omega arith in
    rw (a, b, e)

module _ (x : ℕ) (hx : x ≤ 1310000000) where
  falls : (k : ℕ) → t x (suc k) ≤ t x k
  falls k = t-falls x k hx

  pub series_is : series x ≡ pos (sum x)
  unfolding series
  series_is =
      let h0 = falls 0 in
      let h1 = falls 1 in
      let h2 = falls 2 in
      let h3 = falls 3 in
      let h4 = falls 4 in
      let h5 = falls 5 in
      let h6 = falls 6 in
      let h7 = falls 7 in
      let h8 = falls 8 in
      minus _ _ _ (minus_plus _ _ _ _ (minus_plus _ _ _ _ (minus_plus _ _ _ _ (minus_plus _ _ _ _ refl (omega arith)) (omega arith)) (omega arith)) (omega arith)) (omega arith)

  first : t x 0 ≡ E
  unfolding t
  first = refl

  second : t x 1 ≡ x * x / E / 2
  unfolding t
  second =
      let k : E * x / E ≡ x = omega arith in
      rw k

  pub sum-le : sum x ≤ E
  sum-le =
      let e = first in
      let h0 = falls 0 in
      let h1 = falls 1 in
      let h2 = falls 2 in
      let h3 = falls 3 in
      let h4 = falls 4 in
      let h5 = falls 5 in
      let h6 = falls 6 in
      let h7 = falls 7 in
      let h8 = falls 8 in
      omega arith

  -- how large the terms can be: from the seventh on they are 0
  small_terms : (t x 7 ≡ 0)
  unfolding t
  small_terms =
      let m1 = term-most E x 2 E 1310000000 858050000 (le_refl E) hx (lit≤ tt) (lit≤ tt) in
      let m2 = term-most (t x 1) x 12 858050000 1124045500 122708301 m1 hx (lit≤ tt) (lit≤ tt) in
      let m3 = term-most (t x 2) x 30 122708301 160747874 7019324 m2 hx (lit≤ tt) (lit≤ tt) in
      let m4 = term-most (t x 3) x 56 7019324 9195314 215105 m3 hx (lit≤ tt) (lit≤ tt) in
      let m5 = term-most (t x 4) x 90 215105 281787 4102 m4 hx (lit≤ tt) (lit≤ tt) in
      let m6 = term-most (t x 5) x 132 4102 5373 54 m5 hx (lit≤ tt) (lit≤ tt) in
      let p = mul-le-mul m6 hx in
      let q : t x 6 * x / E ≤ 70 = omega arith in
      let r = mul-le-mul q hx in
      omega arith

  -- so the first six make the sum
  pub sum-short : sum x ≡ t x 0 - t x 1 + t x 2 - t x 3 + t x 4 - t x 5 + t x 6
  sum-short =
      let z = small_terms in
      let h7 = falls 7 in
      let h8 = falls 8 in
      omega arith

  -- and the first alone bounds it from below
  pub sum_low : E - x * x / E / 2 ≤ sum x
  sum_low =
      let e = first in
      let o = second in
      let h0 = falls 0 in
      let h1 = falls 1 in
      let h2 = falls 2 in
      let h3 = falls 3 in
      let h4 = falls 4 in
      let h5 = falls 5 in
      let h6 = falls 6 in
      let h7 = falls 7 in
      let h8 = falls 8 in
      omega arith

  pub series-size : nat_abs (series x) ≤ E
  series-size = subst (λ (z : ℤ). nat_abs z ≤ E) (sym series_is) sum-le
