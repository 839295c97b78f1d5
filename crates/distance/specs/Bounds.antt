-- Inside: what bounds the length of a degree of longitude near a latitude. Assumes nothing.
use Rattle.std.specs.Prelude.{ℕ, ◌≤◌, ℤ, nat_abs}
use Rattle.distance.specs.Distance.{h_of, lat_gap, Q}

-- no mean latitude with one that is at most 9,500 seconds away is above h half-seconds
pub record MostHalves (lat : ℤ) (h : ℕ) : Type 0 where
  pub most : h ≤ 540000
  pub at : (lat2 : ℤ) → nat_abs lat2 ≤ 270000 → lat_gap lat lat2 ≤ 9500 → h_of lat lat2 ≤ h

-- no degree of longitude is shorter there than r
pub record LeastScale (lat : ℤ) (r : ℕ) : Type 0 where
  pub some : 100000000 ≤ r
  pub most : r ≤ 1200000000
  pub at : (lat2 : ℤ) → nat_abs lat2 ≤ 270000 → lat_gap lat lat2 ≤ 9500 → r ≤ nat_abs (Q (h_of lat lat2))
