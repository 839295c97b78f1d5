-- The box around a site that the class which keeps the most gives: no station outside it is short. Assumes nothing.
use mathlib.Core.Path.{◌≡◌}
use mathlib.Core.Logic.{◌⊎◌, inl, inr}
use Prim.Native.Nat.{ℕ, ◌-◌, ◌*◌, ◌/◌, ◌≤◌, ◌<◌}
use native.Mathlib.Nat.{le_trans, mul-le-mul_left, le-div_iff_mul-le, div-add-mod'}
use native.Mathlib.Omega.{arith}
use native.Mathlib.Decide.{dec_lt}
use lib.Dec.{lit<}
use Rattle.distance.specs.Distance.{S, lat_gap, lon_gap}
use Rattle.part73.specs.Separations.{Separations}
use Rattle.squares.specs.Squares.{limit_of}
use Rattle.spacing.specs.Limits.{north_of, east_of, north_at, east_at, LimitsAt}
use Rattle.spacing.specs.Reaching.{InRange, Beyond, Seconds, Surrounds}
use Rattle.spacing.specs.declared.Around.{Around}
use Rattle.spacing.specs.declared.Limits.{Limits}
use Rattle.spacing.specs.declared.Place.{Place}
use Rattle.spacing.proofs.Rule.{far_clear}
use Rattle.spacing.proofs.Shortcuts.{north_far, east_far}

-- a larger number has the larger quotient
div_up : (m n d : ℕ) → 0 < d → m ≤ n → m / d ≤ n / d
div_up m n d h l = (le-div_iff_mul-le {k = d} {x = m / d} {y = n} h).1 (le_trans (omega (arith, div-add-mod' m d)) l)

-- a quotient by a larger number is no larger
div_down : (m d e : ℕ) → 0 < d → d ≤ e → m / e ≤ m / d
div_down m d e h l = (le-div_iff_mul-le {k = d} {x = m / e} {y = m} h).1 (le_trans (mul-le-mul_left (m / e) l) (omega (arith, div-add-mod' m e)))

east-up : (scale r t : ℕ) → 0 < scale → r ≤ t → east_of scale r ≤ east_of scale t
unfolding east_of
east-up scale r t s h = let d = div_up ((10000 * r - 5000) * 3600000) ((10000 * t - 5000) * 3600000) scale s (omega arith) in omega (arith, d)

east-seconds : (scale r : ℕ) → 100000000 ≤ scale → r ≤ 290 → Seconds (east_of scale r)
unfolding east_of
east-seconds scale r s h = let d = div_down ((10000 * r - 5000) * 3600000) 100000000 scale (lit< tt) s in record { some = omega arith; most = omega (arith, d) }

-- a degree of latitude is one of the scale 1,105,648,400
north-up : (r t : ℕ) → r ≤ t → north_of r ≤ north_of t
unfolding north_of east_of
north-up r t h = east-up 1105648400 r t (lit< tt) h

north-seconds : (r : ℕ) → r ≤ 290 → Seconds (north_of r)
unfolding north_of east_of
north-seconds r h = east-seconds 1105648400 r (lit< tt) h

module _ {km : ℕ → ℕ → ℕ → ℕ} (table : Separations km) {p : Place} {limits : Limits} (mine : InRange p) (w : LimitsAt km p limits) where
  widest-most : km p.class 7 0 ≤ 290
  widest-most = table.most p.class 7 0 mine.known (lit< tt) (lit< tt)

  pub up-seconds : Seconds (north_at limits 7)
  up-seconds = rw (w.north 7 (lit< tt)) (north-seconds (km p.class 7 0) widest-most)

  pub across-seconds : Seconds (east_at limits 7)
  across-seconds = rw (w.east 7 (lit< tt)) (east-seconds w.scale (km p.class 7 0) w.least.some widest-most)

  pub surrounds : (a : Around) → a.latitude ≡ p.latitude → a.longitude ≡ p.longitude → a.up ≡ north_at limits 7 → a.across ≡ east_at limits 7 → Surrounds km p a
  surrounds a lat lon up across =
      record {
        fair = record { middle = rw (lat, lon) mine.placed; up = rw up up-seconds; across = rw across across-seconds };
        clear = λ q their e. far_clear table p q mine their (outside q their e);
      }
    where
      outside : (q : Place) → InRange q → Beyond a q.latitude q.longitude → limit_of (km p.class q.class 0) ≤ S p.latitude p.longitude q.latitude q.longitude
      outside q their e = go (dec_lt (lat_gap p.latitude q.latitude) (north_of (km p.class q.class 0))) (rw (lat, lon, up, across) at e.either)
        where
          wide : km p.class q.class 0 ≤ km p.class 7 0
          wide = table.widest p.class q.class mine.known their.known

          go : Dec (lat_gap p.latitude q.latitude < north_of (km p.class q.class 0)) → (north_at limits 7 ≤ lat_gap p.latitude q.latitude) ⊎ (east_at limits 7 ≤ lon_gap p.longitude q.longitude) → limit_of (km p.class q.class 0) ≤ S p.latitude p.longitude q.latitude q.longitude
          go (no n) d = north_far table mine their (omega arith)
          go (yes l) (inl u) = absurd (omega (arith, u, l, w.north 7 (lit< tt), north-up _ _ wide))
          go (yes l) (inr v) = east_far table mine their w.scale w.least l (omega (arith, v, w.east 7 (lit< tt), east-up w.scale _ _ (omega (arith, w.least.some)) wide))
