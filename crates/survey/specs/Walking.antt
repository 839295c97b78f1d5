-- Inside: a walk over the records of a table, and what it asks. Assumes nothing.
use Rattle.std.specs.Prelude.{◌≡◌, Bool, true, ◌&&◌, List, ℕ, ◌<◌, Option, MatchOption}
use Rattle.ground.specs.Passing.{Passing}
use Rattle.spacing.specs.Pair.{Assignment}
use Rattle.framing.specs.Frames.{Unframed}
use Rattle.framing.specs.declared.Frame.{Frame}
use Rattle.stations.specs.Image.{station_at, count}
use Rattle.stations.specs.declared.Station.{Station}
use Rattle.survey.specs.Ways.{near}

-- the record at a position is looked at, and p is short to it
unfoldable pub blocks : (ℕ → ℕ → ℕ → ℕ) → (Station → Bool) → List ℕ → Assignment → ℕ → Bool
blocks km look s p j = look (station_at s j) && near km p (station_at s j)

-- where r says so, a station lies outside of a frame
pub record Outside (f : Frame) (x : Station) (r : Bool) : Type 0 where
  pub told : r ≡ true → Unframed f x.latitude x.longitude

-- from one position to another every record does
abbrev pub Skipped : List ℕ → Frame → ℕ → ℕ → Type 0
Skipped s f from to = Passing (λ j. Unframed f (station_at s j).latitude (station_at s j).longitude) (count s) from to

-- the first position from one on whose record does not, or none
abbrev pub Close : List ℕ → Frame → ℕ → Option ℕ → Type 0
Close s f from answer = MatchOption answer (Skipped s f from (count s)) (λ i. Skipped s f from i × (i < count s))
