-- The answers for C, C++ and Rust: one number of 64 bits, in whose high half stands the refusal's number, 0 where granted, and in
-- whose low half the extra number, or the count or D. Assumes nothing.
use Rattle.std.specs.Prelude.{◌≡◌, List, ℕ, ◌/◌, ◌%◌, ℤ, length, Ok, Err}
use Rattle.refusals.specs.Faults.{Answer, refusal}
use Rattle.refusals.specs.declared.Fault.{Fault}
use Rattle.changes.specs.declared.Newcomer.{Newcomer}
use Rattle.checks.specs.declared.Proposal.{Proposal}
use Rattle.studies.specs.declared.Wanted.{Wanted}
use Rattle.desk.specs.Answers.{Outcome, answer, buffer}

abbrev pub number_of : Answer → ℕ
number_of (Ok n) = 0
number_of (Err f) = (refusal f).number

abbrev pub value_of : Answer → ℕ
value_of (Ok n) = n
value_of (Err f) = (refusal f).extra

-- the promise of a question without a buffer: r is the answer a
pub record Says (a : Answer) (r : ℕ) : Type 0 where
  pub number : r / 4294967296 ≡ number_of a
  pub value : r % 4294967296 ≡ value_of a

-- granted, or refused with a number of the paper
pub data Numbered : Answer → Type 0 where
  granted : (n : ℕ) → Numbered (Ok n)
  refused : (fault : Fault) → Numbered (Err fault)

-- the promise of a question with a lent buffer
pub record Packed (o : Outcome) (entry exit : List ℕ) (r : ℕ) : Type 0 where
  pub said : Says (answer o (length entry)) r
  pub held : exit ≡ buffer o entry

-- what is asked, from its numbers
abbrev pub newcomer : ℕ → ℕ → ℕ → ℕ → ℤ → ℤ → Newcomer
newcomer id channel class zone latitude longitude =
    record { id = id; channel = channel; class = class; zone = zone; latitude = latitude; longitude = longitude }

abbrev pub proposal : ℕ → ℕ → ℕ → ℤ → ℤ → ℕ → ℕ → Proposal
proposal channel class zone latitude longitude aside standard =
    record { channel = channel; class = class; zone = zone; latitude = latitude; longitude = longitude; aside = aside; standard = standard }

abbrev pub wanted : ℕ → ℕ → ℕ → ℕ → ℤ → ℤ → ℕ → ℕ → Wanted
wanted first last class zone latitude longitude aside standard =
    record { first = first; last = last; class = class; zone = zone; latitude = latitude; longitude = longitude; aside = aside; standard = standard }
