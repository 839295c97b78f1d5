-- 02, R-4, in an engineer's words: the longitude difference is the smaller of the two ways round. And its examples, computed
-- by the definition. Assumes nothing.
use Rattle.std.specs.Prelude.{◌≡◌, Bool, List, [], ◌∷◌, ◌⊎◌, ℕ, ◌+◌, ◌≤◌, ℤ, pos, negsuc, nat_abs, ◌-ℤ◌, T, eqb}
use Rattle.ground.specs.Guard.{given}
use Rattle.ground.specs.Lists.{every}
use Rattle.distance.specs.Distance.{lon_gap}

-- of the two ways from one meridian to another, east and west, the smaller
pub record SmallerWay (lon1 lon2 : ℤ) (gap : ℕ) : Type 0 where
  -- the other way
  pub other : ℕ
  -- the two make the whole circle
  pub circle : gap + other ≡ 1296000
  -- the plain difference of the longitudes is one of them
  pub plain : (gap ≡ nat_abs (lon1 -ℤ lon2)) ⊎ (other ≡ nat_abs (lon1 -ℤ lon2))
  pub smaller : gap ≤ other

-- two longitudes, and what they differ by
pub data Example : Type 0 where
  differ : ℤ → ℤ → ℕ → Example

abbrev pub right : Example → Bool
right (differ lon1 lon2 gap) = eqb (lon_gap lon1 lon2) gap

abbrev pub examples : List Example
examples =
    differ (pos 647990) (negsuc 647989) 20
    ∷ differ (negsuc 647989) (pos 647990) 20
    ∷ differ (pos 647999) (negsuc 647990) 10
    ∷ differ (pos 648000) (negsuc 647999) 0
    ∷ differ (pos 648000) (pos 0) 648000
    ∷ differ (negsuc 647999) (pos 0) 648000
    ∷ differ (pos 324000) (negsuc 323999) 648000
    ∷ differ (pos 324000) (negsuc 324000) 647999
    ∷ differ (pos 324000) (negsuc 323998) 647999
    ∷ []

pub examples_right : T (every right examples)
unfolding every given lon_gap
examples_right = tt
