-- What an accepted table says of a record, as a walk over it needs it. Assumes nothing.
use mathlib.Core.List.{List}
use Prim.Native.Nat.{ℕ, ◌+◌, ◌*◌, ◌≤◌, ◌<◌}
use native.Mathlib.Omega.{arith}
use lib.ListN.{length}
use Rattle.spacing.specs.Reaching.{InRange}
use Rattle.versions.proofs.Versions.{limit_small}
use Rattle.stations.specs.Image.{station_at, count, Accepted}
use Rattle.stations.specs.declared.Station.{Station}
use Rattle.stations.proofs.Whole.{whole}
use Rattle.stations.proofs.Fine.{fine_at}
use Rattle.survey.specs.Ways.{place_of}

-- a record that a walk may look at
pub record Known (r : Station) : Type 0 where
  pub placed : InRange (place_of r)
  pub low : 201 ≤ r.channel
  pub high : r.channel ≤ 300

module _ (s : List ℕ) (e : Accepted s) where
  pub known_at : (i : ℕ) → i < count s → Known (station_at s i)
  known_at i h =
      let f = fine_at s (count s) e i h in
      record { placed = record { known = omega (arith, f.class); placed = f.placed }; low = f.low; high = f.high }

  pub room_at : (i : ℕ) → i < count s → 8 + 16 * i + 16 ≤ length s
  room_at i h = omega (arith, (whole s (count s) e).long)

  pub header-room : 8 ≤ length s
  header-room = omega (arith, (whole s (count s) e).long)

  -- its bytes are counted in 16 bits
  pub few : 8 + 16 * count s < 65536
  few = omega (arith, (whole s (count s) e).few, limit_small)
