-- Inside: what the crates above go by: a place in range, how far two stations reach along the channels, and a box around a
-- site. Assumes nothing.
use Rattle.std.specs.Prelude.{◌≡◌, Bool, true, false, ◌&&◌, ◌||◌, ◌⊎◌, ℕ, ◌≤◌, ◌<◌, ltb, eqb, ℤ}
use Rattle.distance.specs.Distance.{lat_gap, lon_gap, Placed}
use Rattle.part73.specs.Columns.{gap}
use Rattle.spacing.specs.Pair.{sited, exempt, short_by}
use Rattle.spacing.specs.declared.Around.{Around}
use Rattle.spacing.specs.declared.Place.{Place}
use Rattle.spacing.specs.declared.Reach.{Reach}

-- a class of the eight at a site in range
pub record InRange (p : Place) : Type 0 where
  pub known : p.class < 8
  pub placed : Placed p.latitude p.longitude

-- short at a difference of channels, by what is reached: at each below `steps`, and at 53 and 54 where `far` says so
abbrev pub hits : Reach → ℕ → Bool
hits r d = ltb d r.steps || ((eqb d 53 || eqb d 54) && r.far)

-- r says at which differences stations at p and at q are short, not both at or below 220
pub record Reaches (km : ℕ → ℕ → ℕ → ℕ) (p q : Place) (r : Reach) : Type 0 where
  pub most : r.steps ≤ 4
  pub tells : (x y : ℕ) → exempt x y ≡ false → short_by km (sited p x) (sited q y) ≡ hits r (gap x y)

-- where r says so, stations at p and at q are short on no channels
pub record Clears (km : ℕ → ℕ → ℕ → ℕ) (p q : Place) (r : Bool) : Type 0 where
  pub tells : r ≡ true → (x y : ℕ) → short_by km (sited p x) (sited q y) ≡ false

-- a site outside a box
pub record Beyond (a : Around) (latitude longitude : ℤ) : Type 0 where
  pub either : (a.up ≤ lat_gap a.latitude latitude) ⊎ (a.across ≤ lon_gap a.longitude longitude)

-- seconds that a box may reach from its middle: at most a quarter of the circle
pub record Seconds (n : ℕ) : Type 0 where
  pub some : 0 < n
  pub most : n ≤ 324000

-- a box that a walk can go by
pub record Fair (a : Around) : Type 0 where
  pub middle : Placed a.latitude a.longitude
  pub up : Seconds a.up
  pub across : Seconds a.across

-- a box around p: no station outside it is short to one at p, on whatever channels
pub record Surrounds (km : ℕ → ℕ → ℕ → ℕ) (p : Place) (a : Around) : Type 0 where
  pub fair : Fair a
  pub clear : (q : Place) → InRange q → Beyond a q.latitude q.longitude → (x y : ℕ) → short_by km (sited p x) (sited q y) ≡ false
