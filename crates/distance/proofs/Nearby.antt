-- What the latitudes nearby and the longitudes tell of S. Assumes nothing.
use mathlib.Core.Path.{◌≡◌, ap}
use Prim.Native.Nat.{ℕ, ◌+◌, ◌-◌, ◌*◌, ◌/◌, ◌≤◌}
use native.Mathlib.Nat.{le_trans, mul-le-mul, mul-le-mul_left}
use native.Mathlib.Omega.{arith}
use lib.IntN.{ℤ, pos, nat_abs, ◌+ℤ◌, ◌-ℤ◌, ◌*ℤ◌, -ℤ-+ℤ_cancel}
use Rattle.ground.proofs.Signed.{abs_add, abs_mul, abs_quot, abs_sub_comm}
use Rattle.distance.specs.Distance.{◌÷◌, E, h_of, x_of, lat_gap, lon_gap, Q, EW, S}
use Rattle.distance.specs.Bounds.{LeastScale, MostHalves}
use Rattle.distance.proofs.Cosines.{c1-low, Q-near}

-- |a + b| is at most twice |a| and |a - b|
pub sum_near : (a b : ℤ) → h_of a b ≤ 2 * nat_abs a + lat_gap a b
sum_near a b =
    let k : nat_abs (b -ℤ a +ℤ a) ≡ nat_abs b = ap nat_abs (-ℤ-+ℤ_cancel b a) in
    omega (arith, abs_add a b, abs_add (b -ℤ a) a, abs_sub_comm a b)

-- from the largest mean latitude to the shortest degree
pub least_is : (lat : ℤ) (h : ℕ) → MostHalves lat h → let x = x_of h in let m = E - x * x / E / 2 in LeastScale lat (1114151300 * m / E - 2842500)
least_is lat h w =
    let x = x_of h in
    let b : x ≤ 1310000000 = omega (arith, w.most) in
    let k = mul-le-mul b b in
    record {
      some = omega arith;
      most = omega arith;
      at = λ lat2 p near.
          let le = w.at lat2 p near in
          let hh : h_of lat lat2 ≤ 540000 = omega (arith, w.most) in
          Q-near (h_of lat lat2) hh _ (c1-low (h_of lat lat2) hh x (omega arith)) (omega arith);
    }

-- where the longitudes alone are L decimetres apart at the shortest degree nearby, S is no less than L²
pub beside : (lat1 lon1 lat2 lon2 : ℤ) (L r : ℕ) → LeastScale lat1 r → nat_abs lat2 ≤ 270000 → lat_gap lat1 lat2 ≤ 9500 → L * 3600000 ≤ lon_gap lon1 lon2 * r → L * L ≤ S lat1 lon1 lat2 lon2
unfolding S EW
beside lat1 lon1 lat2 lon2 L r w p near h = le_trans (mul-le-mul east east) (omega arith)
  where
    east : L ≤ nat_abs (pos (lon_gap lon1 lon2) *ℤ Q (h_of lat1 lat2) ÷ 3600000)
    east =
        omega (
          arith,
          abs_quot (pos (lon_gap lon1 lon2) *ℤ Q (h_of lat1 lat2)) 3600000,
          abs_mul (pos (lon_gap lon1 lon2)) (Q (h_of lat1 lat2)),
          mul-le-mul_left (lon_gap lon1 lon2) (w.at lat2 p near),
        )
