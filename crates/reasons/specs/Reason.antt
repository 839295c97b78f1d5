-- 02, R-2, R-6: why a channel is blocked. Of the stations that are studied and short to what is proposed, the one with the largest
-- shortfall R - D, the lowest id among equals; and its own bytes of the lent table. Assumes nothing.

use Rattle.std.specs.Prelude.{◌≡◌, Bool, ◌&&◌, ◌||◌, List, [], ◌∷◌, ℕ, ◌+◌, ◌*◌, leb, ltb, eqb, Option, Some, None, Result, Ok, Err}
use Rattle.ground.specs.Lists.{keep, every, each, first}
use Rattle.refusals.specs.declared.Fault.{Fault}
use Rattle.spacing.specs.Pair.{Assignment}
use Rattle.stations.specs.Image.{stations, bytes_at}
use Rattle.stations.specs.Lists.{has_id}
use Rattle.stations.specs.declared.Station.{Station}
use Rattle.survey.specs.Ways.{near}
use Rattle.desk.specs.Answers.{Outcome, grant, deny}
use Rattle.studies.specs.Studies.{study}
use Rattle.neighbours.specs.Neighbours.{neighbour_of, shortfall_of}
use Rattle.neighbours.specs.declared.Neighbour.{Neighbour}
use Rattle.checks.specs.Check.{asked, on_one}
use Rattle.checks.specs.declared.Proposal.{Proposal}

-- ---- which station is named

module _ (km : ℕ → ℕ → ℕ → ℕ) (p : Assignment) where
  -- by how much a station is short
  abbrev pub shortfall : Station → ℕ
  shortfall r = shortfall_of (neighbour_of km p r)

  -- another does not come before r: its shortfall is smaller, or it is equal and its id is not lower
  abbrev pub yields : Station → Station → Bool
  yields r other = ltb (shortfall other) (shortfall r) || (eqb (shortfall other) (shortfall r) && leb r.id other.id)

  -- the stations in the way, and of these the one before which no other comes: a list of one, or of none where nobody is in the
  -- way
  unfoldable pub worst : List Station → List Station
  worst ss = let short = keep (near km p) ss in keep (λ r. every (yields r) short) short

-- its numbers: id, D, R, column
abbrev pub numbers_of : Neighbour → List ℕ
numbers_of n = n.id ∷ n.distance ∷ n.separation ∷ n.column ∷ []

-- by a table of separations; no numbers where nobody is in the way
unfoldable pub reason_for : Assignment → (ℕ → ℕ → ℕ → ℕ) → List Station → List ℕ
reason_for p km ss = each (λ r. numbers_of (neighbour_of km p r)) (worst km p ss)

-- the outcome of the question
unfoldable pub reasoned_for : List ℕ → Proposal → Outcome
reasoned_for s p = study s (on_one p) (reason_for (asked p))

-- ---- what is answered

-- nobody is in the way; or the station that is named; or a refusal
abbrev pub Why : Type 0
Why = Result (Option Neighbour) Fault

-- the outcome that each answer tells: the paper's number and values
abbrev pub outcome_of : Why → Outcome
outcome_of (Ok None) = grant []
outcome_of (Ok (Some n)) = grant (numbers_of n)
outcome_of (Err f) = deny f

-- the position of the record with an id, and the byte place where it begins in its table
abbrev pub position_in : List ℕ → ℕ → ℕ
position_in s id = first (has_id id) (stations s)

abbrev pub begins_at : List ℕ → ℕ → ℕ
begins_at s id = 8 + 16 * position_in s id

-- the part of the table that is handed back: the station's own sixteen bytes; with "clear" and with a refusal it is empty
abbrev pub part_of : List ℕ → Why → List ℕ
part_of s (Ok None) = []
part_of s (Ok (Some n)) = bytes_at s (position_in s n.id)
part_of s (Err f) = []

-- the promise of the question: its answer, and the part of the table beside it
pub record Reasoned (s : List ℕ) (p : Proposal) (answer : Why) (part : List ℕ) : Type 0 where
  pub said : outcome_of answer ≡ reasoned_for s p
  pub handed : part ≡ part_of s answer
