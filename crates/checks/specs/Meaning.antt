-- Check in the owner's words: which rows are those of short stations, and their order. Assumes nothing.
use Rattle.std.specs.Prelude.{◌≡◌, List, ℕ, ◌<◌}
use Rattle.ground.specs.Lists.{◌∈◌}
use Rattle.ground.specs.Rows.{Row}
use Rattle.spacing.specs.Pair.{Assignment, distance_of, separation}
use Rattle.stations.specs.declared.Station.{Station}
use Rattle.survey.specs.Ways.{as_it_stands}
use Rattle.checks.specs.Check.{row_of}

-- a station is short to what is proposed: its D is below its R
abbrev pub Short : (ℕ → ℕ → ℕ → ℕ) → Assignment → Station → Type 0
Short km p r = distance_of p (as_it_stands r) < separation km p.channel p.class r.channel r.class

-- the row of a short station of the list
pub record ShortRow (km : ℕ → ℕ → ℕ → ℕ) (p : Assignment) (ss : List Station) (x : Row) : Type 0 where
  pub station : Station
  pub stands : station ∈ ss
  pub short : Short km p station
  pub is : x ≡ row_of km p station

-- a row before another: by the ids, which ascend in the table
abbrev pub Before : Row → Row → Type 0
Before x y = x.a < y.a
