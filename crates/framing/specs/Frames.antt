-- Inside: a box as a walk goes by it, in the bits of the coordinates. Assumes nothing.
use Rattle.std.specs.Prelude.{◌≡◌, ℕ, ◌+◌, ◌-◌, ◌*◌, ◌%◌, ◌<◌, ◌≤◌, Bool, true, false, ◌⊎◌, ℤ, nat_lt, unsigned_abs}
use Rattle.std.specs.Int.{w32}
use Rattle.std.proofs.Common.{of_z}
use Rattle.spacing.specs.Pair.{sited, short_by}
use Rattle.spacing.specs.Reaching.{InRange}
use Rattle.spacing.specs.declared.Place.{Place}
use Rattle.framing.specs.declared.Span.{Span}
use Rattle.framing.specs.declared.Frame.{Frame}

-- bits less a number, where 0 follows the highest of 32 bits
unfoldable pub less : ℕ → ℕ → ℕ
less x n = (x + 4294967296 - n) % 4294967296

-- bits outside of a span
unfoldable pub past : Span → ℕ → Bool
past s x = nat_lt s.size (less x s.low)

-- the span of all that is less than `far` from z
pub record Centred (z : ℤ) (far : ℕ) (s : Span) : Type 0 where
  pub low : s.low ≡ less (of_z w32 z) (far - 1)
  pub size : s.size ≡ 2 * (far - 1)

-- a span with every coordinate in it that is less than `far` from a place, by its gap from there
pub record Holds (gap : ℤ → ℕ) (far : ℕ) (s : Span) : Type 0 where
  pub each : (y : ℤ) → unsigned_abs y ≤ 648000 → gap y < far → past s (of_z w32 y) ≡ false

-- a site outside of a frame
pub record Unframed (f : Frame) (latitude longitude : ℤ) : Type 0 where
  pub either : (past f.latitudes (of_z w32 latitude) ≡ true) ⊎ (past f.longitudes (of_z w32 longitude) ≡ true)

-- no station outside of a frame is short to a class at a site, on whatever channels
pub record Encloses (km : ℕ → ℕ → ℕ → ℕ) (p : Place) (f : Frame) : Type 0 where
  pub clear : (q : Place) → InRange q → Unframed f q.latitude q.longitude → (x y : ℕ) → short_by km (sited p x) (sited q y) ≡ false
