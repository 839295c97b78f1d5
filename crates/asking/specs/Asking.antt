-- 01, The programs; 02, R-1, R-2, R-6: the question that a program's whole input puts. First what is proposed, big-endian, then the
-- table. Assumes nothing.
use Rattle.std.specs.Prelude.{not, List, ℕ, ◌+◌, ltb, eqb, ℤ, length, drop, Err}
use Rattle.std.specs.Int.{w32}
use Rattle.std.proofs.Common.{to_z}
use Rattle.ground.specs.Guard.{given}
use Rattle.wire.specs.Be.{be}
use Rattle.part73.specs.Standards.{by_table_a}
use Rattle.refusals.specs.Faults.{Answer}
use Rattle.refusals.specs.declared.Fault.TheVariants.{UnderEightBytes}
use Rattle.survey.specs.declared.Terms.{Terms}
use Rattle.desk.specs.Answers.{Outcome, deny}
use Rattle.desk.specs.Questions.{distance_of}
use Rattle.checks.specs.declared.Proposal.{Proposal}
use Rattle.checks.specs.Check.{checked_for}
use Rattle.reasons.specs.Reason.{reasoned_for}
use Rattle.subjects.specs.Subjects.{terms_length, terms_at}
use Rattle.studies.specs.declared.Wanted.{Wanted}
use Rattle.arrangements.specs.Arrange.{arranged_for}
use Rattle.changes.specs.declared.Newcomer.{Newcomer}
use Rattle.changes.specs.Changes.{changed_for, add, withdraw, move}

-- the signed number of 32 bits at a place
abbrev pub signed : List ℕ → ℕ → ℤ
signed s at = to_z w32 (be 4 s at)

-- input that ends before the table is refused as a table under 8 bytes, whatever the proposal holds
abbrev pub ends_early : Outcome
ends_early = deny UnderEightBytes

-- the question that is put where the input goes past its first k bytes
unfoldable pub past : ℕ → List ℕ → Outcome → Outcome
past k input o = given (ltb (length input) k) ends_early o

-- the terms of the programs of 01: nobody is left aside, and Table A is the standard
abbrev pub plain : Terms
plain = record { aside = 0; standard = by_table_a }

-- ---- Check

-- channel 16, class 8, zone 8, latitude 32, longitude 32
abbrev pub proposal_of : Terms → List ℕ → Proposal
proposal_of t s =
    record { channel = be 2 s 0; class = be 1 s 2; zone = be 1 s 3; latitude = signed s 4; longitude = signed s 8; aside = t.aside; standard = t.standard }

unfoldable pub check_input : Terms → List ℕ → Outcome
check_input t input = past 12 input (checked_for (drop 12 input) (proposal_of t input))

-- ---- the reason

-- what Check reads, then the terms
unfoldable pub reason_input : List ℕ → Outcome
reason_input input = past (12 + terms_length) input (reasoned_for (drop (12 + terms_length) input) (proposal_of (terms_at input 12) input))

-- the standard that it is asked by; 0 where the input ends before the table
unfoldable pub standard_of : List ℕ → ℕ
standard_of input = given (ltb (length input) (12 + terms_length)) 0 (terms_at input 12).standard

-- ---- Arrange

-- the same without the channel; the new channels that are asked for are not in the input
abbrev pub wanted_of : ℕ → ℕ → Terms → List ℕ → Wanted
wanted_of first last t s =
    record { first = first; last = last; class = be 1 s 0; zone = be 1 s 1; latitude = signed s 2; longitude = signed s 6; aside = t.aside; standard = t.standard }

unfoldable pub arrange_input : ℕ → ℕ → Terms → List ℕ → Outcome
arrange_input first last t input = past 10 input (arranged_for (drop 10 input) (wanted_of first last t input))

-- ---- Add, Withdraw, Move

-- id 32, channel 16, class 8, zone 8, latitude 32, longitude 32, after the letter
abbrev pub newcomer_of : List ℕ → Newcomer
newcomer_of s =
    record { id = be 4 s 1; channel = be 2 s 5; class = be 1 s 7; zone = be 1 s 8; latitude = signed s 9; longitude = signed s 13 }

unfoldable pub add_input : List ℕ → Outcome
add_input input = past 17 input (changed_for (drop 17 input) (add (newcomer_of input)))

-- id 32
unfoldable pub withdraw_input : List ℕ → Outcome
withdraw_input input = past 5 input (changed_for (drop 5 input) (withdraw (be 4 input 1)))

-- id 32, channel 16
unfoldable pub move_input : List ℕ → Outcome
move_input input = past 7 input (changed_for (drop 7 input) (move (be 4 input 1) (be 2 input 5)))

-- the letter that names the change: `a`, `w` or `m`; any other, or none, is refused as input that ends early
unfoldable pub change_input : List ℕ → Outcome
change_input input =
    given (eqb (be 1 input 0) 97) (add_input input)
    (given (eqb (be 1 input 0) 119) (withdraw_input input)
    (given (eqb (be 1 input 0) 109) (move_input input)
    ends_early))

-- ---- the distance

-- the letter `d`, and two sites: latitude 32, longitude 32; any other letter, or input of another length, is refused as input
-- that ends early
unfoldable pub distance_input : List ℕ → Answer
distance_input input =
    given (not (eqb (length input) 17)) (Err UnderEightBytes)
    (given (not (eqb (be 1 input 0) 100)) (Err UnderEightBytes)
    (distance_of (signed input 1) (signed input 5) (signed input 9) (signed input 13)))
