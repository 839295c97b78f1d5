-- 02, R-2, R-6, in the owner's words: which station is the reason, and what is said of it. Assumes nothing.
use Rattle.std.specs.Prelude.{◌≡◌, List, ℕ, ◌≤◌, ◌<◌}
use Rattle.ground.specs.Lists.{◌∈◌}
use Rattle.ground.specs.Rows.{row}
use Rattle.wire.specs.Be.{Bytes}
use Rattle.part73.specs.Standards.{chosen}
use Rattle.spacing.specs.Pair.{Assignment}
use Rattle.stations.specs.Image.{station_at, stations, count, bytes_at}
use Rattle.stations.specs.Encode.{record_of}
use Rattle.stations.specs.declared.Station.{Station}
use Rattle.survey.specs.Ways.{studied}
use Rattle.studies.specs.Studies.{terms_asked}
use Rattle.neighbours.specs.Neighbours.{neighbour_of}
use Rattle.neighbours.specs.declared.Neighbour.{Neighbour}
use Rattle.checks.specs.Check.{asked, on_one, short_rows}
use Rattle.checks.specs.Meaning.{Short}
use Rattle.checks.specs.declared.Proposal.{Proposal}
use Rattle.reasons.specs.Reason.{shortfall}

pub record Named (km : ℕ → ℕ → ℕ → ℕ) (p : Assignment) (ss : List Station) (r : Station) : Type 0 where
  -- a blocking station
  pub stands : r ∈ ss
  pub short : Short km p r
  -- with the largest shortfall: no other short station has a larger one
  pub largest : (x : Station) → x ∈ ss → Short km p x → shortfall km p x ≤ shortfall km p r
  -- the lowest id among equals
  pub lowest : (x : Station) → x ∈ ss → Short km p x → shortfall km p x ≡ shortfall km p r → r.id ≤ x.id

-- the stations that are studied for a proposal
abbrev pub studied_for : List ℕ → Proposal → List Station
studied_for s p = studied (terms_asked (on_one p)) (stations s)

-- what is told with "blocked", n, and the part of the table that is handed back
pub record Explains (s : List ℕ) (p : Proposal) (n : Neighbour) (part : List ℕ) : Type 0 where
  pub who : Station
  pub named : Named (chosen p.standard) (asked p) (studied_for s p) who
  -- its id, D, R and the column that applied, one of the four
  pub is : n ≡ neighbour_of (chosen p.standard) (asked p) who
  pub one_of_four : n.column < 4
  -- it is one of Check's rows, with the same D and R
  pub listed : row n.id n.distance n.separation ∈ short_rows (chosen p.standard) (asked p) (studied_for s p)
  -- the part is its record as it lies in the table: the bytes at its position, which are the encoding of the station
  pub position : ℕ
  pub within : position < count s
  pub there : station_at s position ≡ who
  pub lies : part ≡ bytes_at s position
  pub encodes : Bytes s → part ≡ record_of who
