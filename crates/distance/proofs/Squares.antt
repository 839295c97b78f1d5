-- The ranges of NS, EW and S, that S does not go by the order of the sites, and that it is 0 at one site. Assumes nothing.
use mathlib.Core.Path.{◌≡◌}
use Prim.Native.Nat.{ℕ, ◌*◌, ◌/◌, ◌≤◌}
use native.Mathlib.Nat.{le_trans, mul-le-mul, mul-le-mul_left}
use native.Mathlib.Omega.{arith}
use lib.IntN.{ℤ, pos, nat_abs, ◌-ℤ◌, ◌*ℤ◌, +ℤ_comm, +ℤ_invr}
use Rattle.distance.specs.Distance.{◌÷◌, Placed, h_of, lat_gap, lon_gap, P, Q, NS, EW, S}
use Rattle.ground.proofs.Signed.{abs_add, abs_sub, abs_mul, abs_quot, abs_sub_comm}
use Rattle.distance.proofs.Cosines.{P-high, Q-high, P-low}
use Rattle.distance.proofs.Meridian.{lon_gap_sym, smaller_way}

pub along-size : (n : ℕ) (p : ℤ) (j k : ℕ) → n ≤ j → nat_abs p ≤ k → nat_abs (pos n *ℤ p ÷ 3600000) ≤ j * k / 3600000
along-size n p j k hn hp = omega (arith, abs_quot (pos n *ℤ p) 3600000, abs_mul (pos n) p, mul-le-mul hn hp)

module _ {lat1 lon1 lat2 lon2 : ℤ} (a : Placed lat1 lon1) (b : Placed lat2 lon2) where
  pub h_le : h_of lat1 lat2 ≤ 540000
  h_le = omega (arith, abs_add lat1 lat2, a.north, b.north)

  pub lat_gap_lem : nat_abs (lat1 -ℤ lat2) ≤ 540000
  lat_gap_lem = omega (arith, abs_sub lat1 lat2, a.north, b.north)

  pub lon_gap_lem : lon_gap lon1 lon2 ≤ 648000
  lon_gap_lem = let w = smaller_way lon1 lon2 a.east b.east in omega (arith, w.circle, w.smaller)

  pub NS-size : nat_abs (NS lat1 lat2) ≤ 167549010
  unfolding NS
  NS-size = along-size (lat_gap lat1 lat2) (P (h_of lat1 lat2)) 540000 1116993400 lat_gap_lem (P-high (h_of lat1 lat2) h_le)

  pub EW-size : nat_abs (EW lat1 lon1 lat2 lon2) ≤ 201058884
  unfolding EW
  EW-size = along-size (lon_gap lon1 lon2) (Q (h_of lat1 lat2)) 648000 1116993800 lon_gap_lem (Q-high (h_of lat1 lat2) h_le)

  pub S-size : S lat1 lon1 lat2 lon2 ≤ 200000000000000000
  unfolding S
  S-size = omega (arith, mul-le-mul NS-size NS-size, mul-le-mul EW-size EW-size)

-- S is the same in either order
pub S_sym : (lat1 lon1 lat2 lon2 : ℤ) → S lat1 lon1 lat2 lon2 ≡ S lat2 lon2 lat1 lon1
unfolding S NS EW
S_sym lat1 lon1 lat2 lon2 = simp (+ℤ_comm lat1 lat2, abs_sub_comm lat1 lat2, lon_gap_sym lon1 lon2)

-- at one site it is 0
along_none : (p : ℤ) → nat_abs (pos 0 *ℤ p ÷ 3600000) ≡ 0
along_none p = omega (arith, along-size 0 p 0 (nat_abs p) (omega arith) (omega arith))

pub S-here : (lat lon : ℤ) → S lat lon lat lon ≡ 0
unfolding S NS EW lon_gap
S-here lat lon = rw (+ℤ_invr lat, +ℤ_invr lon, along_none (P (h_of lat lat)), along_none (Q (h_of lat lat)))

-- where the latitudes alone are L decimetres apart at the shortest degree that there is, S is no less than L²
pub far : (lat1 lon1 lat2 lon2 : ℤ) (L : ℕ) → nat_abs lat1 ≤ 270000 → nat_abs lat2 ≤ 270000 → L * 3600000 ≤ lat_gap lat1 lat2 * 1105648400 → L * L ≤ S lat1 lon1 lat2 lon2
unfolding S NS
far lat1 lon1 lat2 lon2 L a b h = le_trans (mul-le-mul north north) (omega arith)
  where
    north : L ≤ nat_abs (pos (lat_gap lat1 lat2) *ℤ P (h_of lat1 lat2) ÷ 3600000)
    north =
        omega (
          arith,
          abs_quot (pos (lat_gap lat1 lat2) *ℤ P (h_of lat1 lat2)) 3600000,
          abs_mul (pos (lat_gap lat1 lat2)) (P (h_of lat1 lat2)),
          mul-le-mul_left (lat_gap lat1 lat2) (P-low (h_of lat1 lat2) (omega (arith, abs_add lat1 lat2))),
        )
