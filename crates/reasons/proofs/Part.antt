-- The part of the table that is handed back: the record of the station that is named, as it lies there. Assumes nothing.
use mathlib.Core.Path.{◌≡◌, ◌∙◌}
use mathlib.Core.List.{List, append-nil}
use Prim.Native.Nat.{ℕ, ◌+◌, ◌≤◌, ◌<◌}
use native.Mathlib.Omega.{arith}
use lib.ListN.{length}
use Rattle.ground.specs.Lists.{each}
use Rattle.wire.specs.Be.{Bytes}
use Rattle.stations.specs.Image.{station_at, bytes_at, count, Accepted}
use Rattle.stations.specs.Encode.{record_of}
use Rattle.stations.proofs.Whole.{whole, next}
use Rattle.stations.proofs.Places.{present_first, present-place}
use Rattle.stations.proofs.Cuts.{cut_image}
use Rattle.survey.proofs.Records.{few, room_at}
use Rattle.reasons.specs.Reason.{position_in, begins_at}
use Rattle.reasons.specs.Inside.{Stands}

module _ (s : List ℕ) (id : ℕ) (w : Stands s id) where
  -- its position is one of the table, and the record there has the id
  pub stands_at : (position_in s id < count s) × ((station_at s (position_in s id)).id ≡ id)
  stands_at =
      let p = present-place s (count s) w.accepted id w.present in
      rw (present_first s (count s) w.accepted id w.present) p

  pub stands-within : begins_at s id + 16 ≤ length s
  stands-within = room_at s w.accepted (position_in s id) stands_at.0

  -- and counted in 16 bits
  pub stands-low : begins_at s id < 65536
  stands-low = omega (arith, stands_at.0, few s w.accepted)

-- sixteen bytes of an accepted table are the encoding of the station there
pub record_bytes : (s : List ℕ) → Bytes s → Accepted s → (i : ℕ) → i < count s → bytes_at s i ≡ record_of (station_at s i)
unfolding each
record_bytes s b e i h =
    cut_image s b (count s) e i 1 (omega (arith, h)) ∙ (rw (next (whole s (count s) e) i h) (append-nil (record_of (station_at s i))))
