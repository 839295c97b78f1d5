-- 01, The questions: Add, Withdraw and Move. One definition of the outcome: the list of stations that is granted, or the
-- refusal; the image that is written is the encoding of that list. Assumes nothing.
use Rattle.std.specs.Prelude.{not, List, ℕ, eqb, leb, length, Result, Ok, Err}
use Rattle.ground.specs.Guard.{given}
use Rattle.ground.specs.Lists.{some, first}
use Rattle.refusals.specs.Faults.{Verdict}
use Rattle.refusals.specs.declared.Fault.{Fault}
use Rattle.refusals.specs.declared.Fault.TheVariants.{AskedChannel, IdZero, IdPresent, Short, TableFull, IdAbsent, NotMovable}
use Rattle.versions.specs.Version.{limit}
use Rattle.stations.specs.Image.{stations, judged}
use Rattle.stations.specs.Encode.{encode}
use Rattle.stations.specs.Lists.{has_id, with_id, movable, onto, insert, without, rechannel}
use Rattle.stations.specs.declared.Station.{Station}
use Rattle.desk.specs.Answers.{Outcome, grant, deny, on_table}
use Rattle.desk.specs.Asked.{outside, asked_fault}
use Rattle.finding.specs.Conflicts.{conflicts}
use Rattle.changes.specs.declared.Newcomer.{Newcomer}

-- what is asked for
pub data Change : Type 0 where
  add : Newcomer → Change
  withdraw : ℕ → Change
  move : ℕ → ℕ → Change

-- the list that is granted, or the refusal
abbrev pub Decision : Type 0
Decision = Result (List Station) Fault

abbrev pub on_verdict : Verdict → Decision → Decision
on_verdict (Ok _) d = d
on_verdict (Err f) d = Err f

-- the record of a newcomer: flags 0
abbrev pub entered : Newcomer → Station
entered w = record { id = w.id; channel = w.channel; class = w.class; flags = 0; latitude = w.latitude; longitude = w.longitude }

-- how what is asked of it is judged: 13 to 17
abbrev pub asked_of : Newcomer → Verdict
asked_of w = asked_fault w.channel w.channel w.class w.zone w.latitude w.longitude

-- a record to be entered: 18, 19, 20, 21
abbrev pub entering : List Station → Station → Decision
entering ss r =
    given (eqb r.id 0) (Err IdZero)
    (given (some (has_id r.id) ss) (Err (IdPresent (first (has_id r.id) ss)))
    (given (some (conflicts r) ss) (Err (Short (first (conflicts r) ss)))
    (given (leb limit (length ss)) (Err TableFull)
    (Ok (insert r ss)))))

-- Add: 13 to 17, then the record's. Withdraw: 23. Move: 13, 23, 25, 20
unfoldable pub decide : List Station → Change → Decision
decide ss (add w) = on_verdict (asked_of w) (entering ss (entered w))
decide ss (withdraw id) = given (not (some (has_id id) ss)) (Err IdAbsent) (Ok (without id ss))
decide ss (move id channel) =
    given (outside channel) (Err AskedChannel)
    (with_id id ss (Err IdAbsent) (λ r.
    given (not (movable r)) (Err (NotMovable (first (has_id id) ss)))
    (given (some (conflicts (onto channel r)) ss) (Err (Short (first (conflicts (onto channel r)) ss)))
    (Ok (rechannel id channel ss)))))

-- the bytes that are granted
abbrev pub written : Decision → Outcome
written (Ok rs) = grant (encode rs)
written (Err f) = deny f

unfoldable pub changed_for : List ℕ → Change → Outcome
changed_for s c = on_table (judged s) (written (decide (stations s) c))
