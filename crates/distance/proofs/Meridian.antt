-- The longitude difference is the smaller of the two ways round, and the same in either order; 648,000 east and 648,000 west are
-- one meridian. Assumes nothing.
use mathlib.Core.Path.{◌≡◌, refl, ap, ◌∙◌}
use mathlib.Core.Bool.{Bool}
use mathlib.Core.Logic.{◌⊎◌, inl, inr}
use Prim.Native.Nat.{ℕ, zero, suc, ◌+◌, ◌-◌, ◌≤◌, ◌<◌}
use native.Mathlib.Omega.{arith}
use native.Mathlib.Decide.{dec_lt}
use lib.Dec.{lit≤}
use lib.IntN.{ℤ, pos, negsuc, nat_abs, ◌-ℤ◌}
use mir.Syntax.{w32}
use mir.Val.{SFits, to_z, of_z}
use mir.Facts.{to_z-of_z}
use borrow.Author.Tests.{lt-ltb, le-ltb}
use Rattle.ground.proofs.Signed.{abs_sub, abs_sub_comm, sub_pos}
use Rattle.distance.specs.Distance.{pick, short_way, lon_gap, EW, S}
use Rattle.distance.specs.Meridian.{SmallerWay}

-- up to half the circle the plain difference, above it the rest of the circle
pub plain_way : (d : ℕ) → d ≤ 648000 → short_way d ≡ d
plain_way d h = ap (λ (t : Bool). pick t (1296000 - d) d) (le-ltb 648000 d h)

pub other_way : (d : ℕ) → 648000 < d → short_way d ≡ 1296000 - d
other_way d h = ap (λ (t : Bool). pick t (1296000 - d) d) (lt-ltb 648000 d h)

-- the same of a difference of two longitudes that were read from their bits
module _ {u v : ℤ} {d : ℕ} (e : d ≡ nat_abs (to_z w32 (of_z w32 u) -ℤ to_z w32 (of_z w32 v))) (f : SFits w32 u) (g : SFits w32 v) where
  read_way : short_way d ≡ lon_gap u v
  unfolding lon_gap
  read_way = ap short_way (simp (to_z-of_z f, to_z-of_z g) at e)

  pub over_half : 648000 < d → 1296000 - d ≡ lon_gap u v
  over_half h = omega (arith, other_way d h, read_way)

  pub within_half : d ≤ 648000 → d ≡ lon_gap u v
  within_half h = omega (arith, plain_way d h, read_way)

pub lon_gap_sym : (lon1 lon2 : ℤ) → lon_gap lon1 lon2 ≡ lon_gap lon2 lon1
unfolding lon_gap
lon_gap_sym lon1 lon2 = ap short_way (abs_sub_comm lon1 lon2)

module _ (lon1 lon2 : ℤ) where
  -- of the two ways round the smaller
  pub smaller_way : nat_abs lon1 ≤ 648000 → nat_abs lon2 ≤ 648000 → SmallerWay lon1 lon2 (lon_gap lon1 lon2)
  unfolding lon_gap
  smaller_way h k = go (nat_abs (lon1 -ℤ lon2)) refl (dec_lt 648000 (nat_abs (lon1 -ℤ lon2)))
    where
      go : (d : ℕ) → nat_abs (lon1 -ℤ lon2) ≡ d → Dec (648000 < d) → SmallerWay lon1 lon2 (short_way d)
      go d e (no n) =
          let w = plain_way d (omega arith) in
          record { other = 1296000 - d; circle = omega (arith, w); plain = inl (omega (arith, w, e)); smaller = omega (arith, w) }
      go d e (yes l) =
          let w = other_way d l in
          record { other = d; circle = omega (arith, w, e, abs_sub lon1 lon2); plain = inr (omega (arith, e)); smaller = omega (arith, w) }

  -- and no other number is
  pub only_way : (gap : ℕ) → SmallerWay lon1 lon2 gap → gap ≡ lon_gap lon1 lon2
  unfolding lon_gap
  only_way gap w = go (nat_abs (lon1 -ℤ lon2)) w.plain (dec_lt 648000 (nat_abs (lon1 -ℤ lon2)))
    where
      go : (d : ℕ) → (gap ≡ d) ⊎ (w.other ≡ d) → Dec (648000 < d) → gap ≡ short_way d
      go d (inl e) (no n) = omega (arith, plain_way d (omega arith), e)
      go d (inr e) (no n) = omega (arith, plain_way d (omega arith), e, w.circle, w.smaller)
      go d (inl e) (yes l) = absurd (omega (arith, e, w.circle, w.smaller))
      go d (inr e) (yes l) = omega (arith, other_way d l, e, w.circle)

-- what the plain differences from the two ends make together
ends : (lon : ℤ) → nat_abs lon ≤ 648000 → nat_abs (pos 648000 -ℤ lon) + nat_abs (negsuc 647999 -ℤ lon) ≡ 1296000
ends (pos zero) h = refl
ends (pos (suc n)) h = let e = ap nat_abs (sub_pos 648000 (suc n) h) in omega (arith, e)
ends (negsuc n) h = let e = abs_sub_comm (negsuc 647999) (negsuc n) ∙ ap nat_abs (sub_pos 648000 (suc n) h) in omega (arith, e)

-- a site on the 180th meridian is as far from any other by either of its longitudes
pub one_meridian : (lon : ℤ) → nat_abs lon ≤ 648000 → lon_gap (pos 648000) lon ≡ lon_gap (negsuc 647999) lon
one_meridian lon h = only_way (negsuc 647999) lon _ (record { other = w.other; circle = w.circle; plain = swap w.plain; smaller = w.smaller })
  where
    w : SmallerWay (pos 648000) lon (lon_gap (pos 648000) lon)
    w = smaller_way (pos 648000) lon (lit≤ tt) h

    swap : (lon_gap (pos 648000) lon ≡ nat_abs (pos 648000 -ℤ lon)) ⊎ (w.other ≡ nat_abs (pos 648000 -ℤ lon)) → (lon_gap (pos 648000) lon ≡ nat_abs (negsuc 647999 -ℤ lon)) ⊎ (w.other ≡ nat_abs (negsuc 647999 -ℤ lon))
    swap (inl e) = inr (omega (arith, e, w.circle, ends lon h))
    swap (inr e) = inl (omega (arith, e, w.circle, ends lon h))

pub S_meridian : (lat1 lat2 lon2 : ℤ) → nat_abs lon2 ≤ 648000 → S lat1 (pos 648000) lat2 lon2 ≡ S lat1 (negsuc 647999) lat2 lon2
unfolding S EW
S_meridian lat1 lat2 lon2 h = simp (one_meridian lon2 h)
