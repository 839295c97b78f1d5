-- 01, The questions: Check; 02, R-1, R-6. Three numbers for each short station that is studied, in table order: id, D, R.
-- Assumes nothing.
use Rattle.std.specs.Prelude.{ℕ, List, map}
use Rattle.ground.specs.Lists.{keep}
use Rattle.ground.specs.Rows.{Row, row, flat}
use Rattle.spacing.specs.Pair.{Assignment, assignment}
use Rattle.stations.specs.declared.Station.{Station}
use Rattle.survey.specs.Ways.{near}
use Rattle.neighbours.specs.Neighbours.{neighbour_of}
use Rattle.desk.specs.Answers.{Outcome}
use Rattle.studies.specs.Studies.{study}
use Rattle.studies.specs.declared.Wanted.{Wanted}
use Rattle.checks.specs.declared.Proposal.{Proposal}

-- what is proposed, as a pair is held by it
abbrev pub asked : Proposal → Assignment
asked p = assignment p.channel p.class p.latitude p.longitude

-- what is wanted of the study: that channel alone
abbrev pub on_one : Proposal → Wanted
on_one p =
    record { first = p.channel; last = p.channel; class = p.class; zone = p.zone; latitude = p.latitude; longitude = p.longitude; aside = p.aside; standard = p.standard }

-- id, D, R of a station, by a table of separations
unfoldable pub row_of : (ℕ → ℕ → ℕ → ℕ) → Assignment → Station → Row
row_of km p r = let n = neighbour_of km p r in row n.id n.distance n.separation

unfoldable pub short_rows : (ℕ → ℕ → ℕ → ℕ) → Assignment → List Station → List Row
short_rows km p ss = map (row_of km p) (keep (near km p) ss)

-- their numbers
abbrev pub rows_for : Assignment → (ℕ → ℕ → ℕ → ℕ) → List Station → List ℕ
rows_for p km ss = flat (short_rows km p ss)

-- the outcome of the question
unfoldable pub checked_for : List ℕ → Proposal → Outcome
checked_for s p = study s (on_one p) (rows_for (asked p))
