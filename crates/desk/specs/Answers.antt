-- What every question shares: from an outcome and the room of a lent buffer, the answer and what the buffer then holds.
-- Assumes nothing.
use Rattle.std.specs.Prelude.{◌≡◌, List, ◌++◌, ℕ, ltb, length, drop, Ok, Err}
use Rattle.ground.specs.Guard.{given}
use Rattle.refusals.specs.Faults.{Verdict, Answer, refusal}
use Rattle.refusals.specs.declared.Fault.{Fault}
use Rattle.refusals.specs.declared.Fault.TheVariants.{DoesNotFit}

-- the numbers or bytes that are granted, or the refusal, 22 left out
pub data Outcome : Type 0 where
  grant : List ℕ → Outcome
  deny : Fault → Outcome

-- the table is judged first
abbrev pub on_table : Answer → Outcome → Outcome
on_table (Ok n) o = o
on_table (Err f) o = deny f

-- then the question's own checks
abbrev pub on_asked : Verdict → Outcome → Outcome
on_asked (Ok _) o = o
on_asked (Err f) o = deny f

-- 22 is given exactly when the buffer is shorter than the count
abbrev pub answer : Outcome → ℕ → Answer
answer (grant vs) room = given (ltb room (length vs)) (Err (DoesNotFit (length vs))) (Ok (length vs))
answer (deny f) room = Err f

-- on success the buffer holds the answer from its start and its remaining places are untouched; a refusal writes nothing
abbrev pub buffer : Outcome → List ℕ → List ℕ
buffer (grant vs) entry = given (ltb (length entry) (length vs)) entry (vs ++ drop (length vs) entry)
buffer (deny f) entry = entry

-- the promise of a question with an outcome and a lent buffer
pub record Answered (o : Outcome) (entry exit : List ℕ) (r : Answer) : Type 0 where
  pub said : r ≡ answer o (length entry)
  pub held : exit ≡ buffer o entry

-- inside: 22 where so many numbers or bytes are more than the room
unfoldable pub room_fault : ℕ → ℕ → Verdict
room_fault room need = given (ltb room need) (Err (DoesNotFit need)) (Ok tt)
