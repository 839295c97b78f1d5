-- The ranges of the cosines, of P and of Q, up to 75 degrees of mean latitude. Assumes nothing.
use mathlib.Core.Path.{◌≡◌, sym, ap, ◌∙◌, subst}
use Prim.Native.Nat.{ℕ, ◌+◌, ◌-◌, ◌*◌, ◌/◌, ◌≤◌}
use native.Mathlib.Nat.{le_refl, le_trans, mul-le-mul}
use native.Mathlib.Omega.{arith}
use lib.IntN.{ℤ, pos, nat_abs, ◌+ℤ◌, ◌-ℤ◌, ◌*ℤ◌}
use Rattle.distance.specs.Distance.{◌÷◌, E, x_of, c1, c2, c3, c4, c5, P, Q}
use Rattle.ground.proofs.Signed.{abs_add, abs_sub, abs_mul, abs_quot, square_pos, gap, Near, near, near_add, near_sub}
use Rattle.distance.proofs.Series.{series_is, series-size, sum_low}

pub x_le : (h : ℕ) → h ≤ 540000 → x_of h ≤ 1310000000
x_le h hh = omega arith

-- a × b / E
pub scaled-size : (a b : ℤ) (m n : ℕ) → nat_abs a ≤ m → nat_abs b ≤ n → nat_abs (a *ℤ b ÷ E) ≤ m * n / E
scaled-size a b m n ha hb = omega (arith, abs_quot (a *ℤ b) E, abs_mul a b, mul-le-mul ha hb)

-- 2 (z × z / E) - E is again between -E and E
pub double_size : (z : ℤ) → nat_abs z ≤ E → nat_abs (pos 2 *ℤ (z *ℤ z ÷ E) -ℤ pos E) ≤ E
double_size z h =
    subst (λ (y : ℤ). nat_abs (pos 2 *ℤ (y ÷ E) -ℤ pos E) ≤ E) (sym (square_pos z))
    (gap (2 * (nat_abs z * nat_abs z / E)) E E (omega (arith, mul-le-mul h h)) (omega arith))

-- 2 (a × b / E) - c
pub twice-size : (a b c : ℤ) (k : ℕ) → nat_abs a ≤ E → nat_abs b ≤ E → nat_abs c ≤ k → nat_abs (pos 2 *ℤ (a *ℤ b ÷ E) -ℤ c) ≤ 2 * E + k
twice-size a b c k ha hb hc =
    omega (arith, abs_sub (pos 2 *ℤ (a *ℤ b ÷ E)) c, abs_mul (pos 2) (a *ℤ b ÷ E), scaled-size a b E E ha hb)

module _ (h : ℕ) (hh : h ≤ 540000) where
  pub c1-size : nat_abs (c1 h) ≤ E
  unfolding c1
  c1-size = series-size (x_of h) (x_le h hh)

  pub c2-size : nat_abs (c2 h) ≤ E
  unfolding c2
  c2-size = double_size (c1 h) c1-size

  pub c4-size : nat_abs (c4 h) ≤ E
  unfolding c4
  c4-size = double_size (c2 h) c2-size

  pub c3-size : nat_abs (c3 h) ≤ 3 * E
  unfolding c3
  c3-size = twice-size (c1 h) (c2 h) (c1 h) E c1-size c2-size c1-size

  pub c5-size : nat_abs (c5 h) ≤ 5 * E
  unfolding c5
  c5-size = twice-size (c1 h) (c4 h) (c3 h) (3 * E) c1-size c4-size c3-size

  -- P is within 5,672,500 of 1,111,320,900
  pub P-near : Near 1111320900 5672500 (P h)
  unfolding P
  P-near =
      near_add 12000 (pos 12000 *ℤ c4 h ÷ E) (near_sub 5660500 (pos 5660500 *ℤ c2 h ÷ E) (near 1111320900) (scaled-size (pos 5660500) (c2 h) 5660500 E (omega arith) c2-size) (omega arith))
      (scaled-size (pos 12000) (c4 h) 12000 E (omega arith) c4-size) (omega arith)

  pub P-low : 1105648400 ≤ nat_abs (P h)
  P-low = omega (arith, P-near.low)

  pub P-high : nat_abs (P h) ≤ 1116993400
  P-high = omega (arith, P-near.high)

  pub Q-high : nat_abs (Q h) ≤ 1116993800
  unfolding Q
  Q-high =
      omega (
        arith,
        abs_add (pos 1114151300 *ℤ c1 h ÷ E -ℤ pos 945500 *ℤ c3 h ÷ E) (pos 1200 *ℤ c5 h ÷ E),
        abs_sub (pos 1114151300 *ℤ c1 h ÷ E) (pos 945500 *ℤ c3 h ÷ E),
        scaled-size (pos 1114151300) (c1 h) 1114151300 E (omega arith) c1-size,
        scaled-size (pos 945500) (c3 h) 945500 (3 * E) (omega arith) c3-size,
        scaled-size (pos 1200) (c5 h) 1200 (5 * E) (omega arith) c5-size,
      )

  -- the cosine is no less than its first term tells
  pub c1-low : (x : ℕ) → x_of h ≤ x → E - x * x / E / 2 ≤ nat_abs (c1 h)
  unfolding c1
  c1-low x le =
      subst (λ (z : ℤ). E - x * x / E / 2 ≤ nat_abs z) (sym (series_is (x_of h) (x_le h hh)))
      (le_trans (step (x_of h * x_of h) (x * x) (mul-le-mul le le)) (sum_low (x_of h) (x_le h hh)))
    where
      step : (p q : ℕ) → p ≤ q → E - q / E / 2 ≤ E - p / E / 2
      step p q l = omega arith

  c1_pos : c1 h ≡ pos (nat_abs (c1 h))
  unfolding c1
  c1_pos = let e = series_is (x_of h) (x_le h hh) in e ∙ ap (λ (z : ℤ). pos (nat_abs z)) (sym e)

  -- Q is within 2,842,500 of its first term
  Q_about : 100000000 ≤ nat_abs (c1 h) → Near (1114151300 * nat_abs (c1 h) / E) 2842500 (Q h)
  unfolding Q
  Q_about some =
      let k = 1114151300 * nat_abs (c1 h) / E in
      let n : Near k 2842500 (pos k -ℤ pos 945500 *ℤ c3 h ÷ E +ℤ pos 1200 *ℤ c5 h ÷ E) =
      near_add 6000 (pos 1200 *ℤ c5 h ÷ E) (near_sub 2836500 (pos 945500 *ℤ c3 h ÷ E) (near k) (scaled-size (pos 945500) (c3 h) 945500 (3 * E) (omega arith) c3-size) (omega arith))
      (scaled-size (pos 1200) (c5 h) 1200 (5 * E) (omega arith) c5-size) (omega arith) in
      subst (λ (z : ℤ). Near k 2842500 (pos 1114151300 *ℤ z ÷ E -ℤ pos 945500 *ℤ c3 h ÷ E +ℤ pos 1200 *ℤ c5 h ÷ E)) (sym c1_pos) n

  pub Q-near : (m : ℕ) → m ≤ nat_abs (c1 h) → 100000000 ≤ m → 1114151300 * m / E - 2842500 ≤ nat_abs (Q h)
  Q-near m le some = let n = Q_about (le_trans some le) in omega (arith, n.low)

  -- neither P nor Q is negative
  pub P_is : P h ≡ pos (nat_abs (P h))
  P_is = P-near.is

  pub Q_is : Q h ≡ pos (nat_abs (Q h))
  Q_is =
      let x = x_of h in
      let b = x_le h hh in
      (Q_about (le_trans (enough (x * x) (mul-le-mul b b)) (c1-low x (le_refl x)))).is
    where
      enough : (n : ℕ) → n ≤ 1310000000 * 1310000000 → 100000000 ≤ E - n / E / 2
      enough n l = omega arith
