-- Inside: what is asked for before a changed list is written. Assumes nothing.
use Rattle.std.specs.Prelude.{◌≡◌, false, List, ◌++◌, ℕ, ◌+◌, ◌-◌, ◌≤◌, ◌<◌, take, drop}
use Rattle.ground.specs.Lists.{some, first}
use Rattle.versions.specs.Version.{limit}
use Rattle.stations.specs.Image.{station_at, stations, count, Accepted}
use Rattle.stations.specs.Lists.{has_id, from_id, onto}
use Rattle.stations.specs.declared.Station.{Station}

-- a record with a new id is set in at its place p, where the table is not full
pub record Adds (s : List ℕ) (p : ℕ) (r : Station) : Type 0 where
  pub place : p ≡ first (from_id r.id) (stations s)
  pub new : some (has_id r.id) (stations s) ≡ false
  pub room : count s < limit

-- the record at position p is r on another channel
pub record Moves (s : List ℕ) (p : ℕ) (r : Station) : Type 0 where
  pub within : p < count s
  pub same : r ≡ onto r.channel (station_at s p)

-- others in place of the records from position p on and before q
abbrev pub spliced : ℕ → ℕ → List Station → List Station → List Station
spliced p q rs ss = take p ss ++ (rs ++ drop q ss)

-- k records in place of those: the positions lie in an accepted table, and no more are left than a table may have
pub record Splices (s : List ℕ) (p q k : ℕ) : Type 0 where
  pub accepted : Accepted s
  pub front : p ≤ count s
  pub back : q ≤ count s
  pub few : p + k + (count s - q) ≤ limit
