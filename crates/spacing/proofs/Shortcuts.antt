-- The latitudes alone, or the longitudes alone, put two sites as far apart as a limit. Assumes nothing.
use Prim.Native.Nat.{ℕ, ◌+◌, ◌-◌, ◌*◌, ◌/◌, ◌≤◌, ◌<◌}
use native.Mathlib.Nat.{le_trans, mul-le-mul_right, mod-lt, div-add-mod', add-mul}
use native.Mathlib.Omega.{arith}
use lib.Dec.{lit<}
use Rattle.distance.specs.Distance.{S, lat_gap, lon_gap}
use Rattle.distance.specs.Bounds.{LeastScale}
use Rattle.distance.proofs.Squares.{far}
use Rattle.distance.proofs.Nearby.{beside}
use Rattle.part73.specs.Separations.{Separations}
use Rattle.squares.specs.Squares.{limit_of}
use Rattle.spacing.specs.Limits.{north_of, east_of}
use Rattle.spacing.specs.Reaching.{InRange}
use Rattle.spacing.specs.declared.Place.{Place}

-- one more than a quotient times the divisor passes the number
over : (n d : ℕ) → 0 < d → n ≤ (n / d + 1) * d
over n d h = omega (arith, div-add-mod' n d, mod-lt n h, add-mul (n / d) 1 d)

module _ {km : ℕ → ℕ → ℕ → ℕ} (table : Separations km) {p q : Place} (mine : InRange p) (their : InRange q) where
  -- by the latitudes
  pub north_far : north_of (km p.class q.class 0) ≤ lat_gap p.latitude q.latitude → limit_of (km p.class q.class 0) ≤ S p.latitude p.longitude q.latitude q.longitude
  unfolding limit_of north_of
  north_far h =
      let L = 10000 * km p.class q.class 0 - 5000 in
      far p.latitude p.longitude q.latitude q.longitude L mine.placed.north their.placed.north (le_trans (over (L * 3600000) 1105648400 (lit< tt)) (mul-le-mul_right 1105648400 h))

  -- by the longitudes, where the latitudes do not
  pub east_far : (scale : ℕ) → LeastScale p.latitude scale → lat_gap p.latitude q.latitude < north_of (km p.class q.class 0) → east_of scale (km p.class q.class 0) ≤ lon_gap p.longitude q.longitude → limit_of (km p.class q.class 0) ≤ S p.latitude p.longitude q.latitude q.longitude
  unfolding limit_of north_of east_of
  east_far scale w low h =
      let L = 10000 * km p.class q.class 0 - 5000 in
      beside p.latitude p.longitude q.latitude q.longitude L scale w their.placed.north (omega (arith, table.most p.class q.class 0 mine.known their.known (lit< tt))) (le_trans (over (L * 3600000) scale (omega (arith, w.some))) (mul-le-mul_right scale h))
