-- What is asked of a table for a change, and how it is answered: where an id stands, and the first station that passes a test.
-- Assumes nothing.
use Rattle.std.specs.Prelude.{Bool, List, ℕ, Option, Some, None, Result, Ok, Err}
use Rattle.ground.specs.Guard.{given}
use Rattle.ground.specs.Lists.{some, first}
use Rattle.spacing.specs.Reaching.{InRange}
use Rattle.stations.specs.Lists.{has_id, from_id}
use Rattle.stations.specs.declared.Station.{Station}
use Rattle.survey.specs.Ways.{place_of}
use Rattle.nearby.specs.Positions.{Asked}

-- the position of the record with an id; else the place where it would stand
unfoldable pub found_at : ℕ → List Station → Result ℕ ℕ
found_at id ss = given (some (has_id id) ss) (Ok (first (has_id id) ss)) (Err (first (from_id id) ss))

-- the position of the first that passes a test, or none
unfoldable pub first_of : (Station → Bool) → List Station → Option ℕ
first_of p ss = given (some p ss) (Some (first p ss)) None

-- a station on a channel from 221 to 300, with a class at a site in range
pub record Entrant (r : Station) : Type 0 where
  pub asked : Asked r.channel
  pub placed : InRange (place_of r)
