-- Every refusal is one of the paper's, with its number; so a question is granted exactly when the number is 0. Assumes nothing.
use Rattle.std.specs.Prelude.{Ok, Err}
use mathlib.Core.Path.{◌≡◌, refl}
use mathlib.Core.Logic.{◌↔◌, ◌⊎◌, inl, inr}
use mathlib.Core.List.{List}
use Prim.Native.Nat.{ℕ, ◌/◌, ◌%◌, ◌<◌}
use native.Mathlib.Omega.{arith}
use lib.IntN.{ℤ}
use Rattle.refusals.specs.Faults.{Answer, refusal}
use Rattle.refusals.specs.declared.Fault.{Fault}
use Rattle.refusals.specs.declared.Fault.TheVariants.{UnderEightBytes, MarkDiffers, VersionUnknown, SixthByteSet, CountOutside, LengthWrong, IdNotAscending, ChannelOutside, ClassOver, FlagsOver, LatitudeOutside, LongitudeOutside, AskedChannel, AskedClass, AskedZone, NotPermitted, AskedSite, IdZero, IdPresent, Short, TableFull, DoesNotFit, IdAbsent, TooFar, NotMovable, StandardUnknown, Repeated}
use Rattle.desk.specs.Answers.{answer}
use Rattle.desk.specs.Questions.{read_of, distance_of}
use Rattle.studies.specs.declared.Wanted.{Wanted}
use Rattle.changes.specs.Changes.{Change, changed_for}
use Rattle.checks.specs.Check.{checked_for}
use Rattle.checks.specs.declared.Proposal.{Proposal}
use Rattle.reasons.specs.Reason.{reasoned_for}
use Rattle.arrangements.specs.Arrange.{arranged_for}
use Rattle.fms.specs.Packed.{Says, Numbered, granted, refused}
use Rattle.fms.specs.Reason.{located}

-- an answer is no other, by its type
numbered : (a : Answer) → Numbered a
numbered (Ok n) = granted n
numbered (Err f) = refused f

pub numbered-change : (s : List ℕ) (c : Change) (room : ℕ) → Numbered (answer (changed_for s c) room)
numbered-change s c room = numbered _

pub numbered-check : (s : List ℕ) (p : Proposal) (room : ℕ) → Numbered (answer (checked_for s p) room)
numbered-check s p room = numbered _

pub numbered-arrange : (s : List ℕ) (w : Wanted) (room : ℕ) → Numbered (answer (arranged_for s w) room)
numbered-arrange s w room = numbered _

pub numbered-reason : (s : List ℕ) (p : Proposal) → Numbered (located s (reasoned_for s p))
numbered-reason s p = numbered _

pub numbered-read : (s : List ℕ) → Numbered (read_of s)
numbered-read s = numbered _

pub numbered-distance : (lat1 lon1 lat2 lon2 : ℤ) → Numbered (distance_of lat1 lon1 lat2 lon2)
numbered-distance lat1 lon1 lat2 lon2 = numbered _

-- ---- granted exactly when the number is 0

above_0 : (fault : Fault) → 0 < (refusal fault).number
above_0 UnderEightBytes = omega arith
above_0 MarkDiffers = omega arith
above_0 VersionUnknown = omega arith
above_0 SixthByteSet = omega arith
above_0 CountOutside = omega arith
above_0 LengthWrong = omega arith
above_0 (IdNotAscending i) = omega arith
above_0 (ChannelOutside i) = omega arith
above_0 (ClassOver i) = omega arith
above_0 (FlagsOver i) = omega arith
above_0 (LatitudeOutside i) = omega arith
above_0 (LongitudeOutside i) = omega arith
above_0 AskedChannel = omega arith
above_0 AskedClass = omega arith
above_0 AskedZone = omega arith
above_0 NotPermitted = omega arith
above_0 AskedSite = omega arith
above_0 IdZero = omega arith
above_0 (IdPresent i) = omega arith
above_0 (Short i) = omega arith
above_0 TableFull = omega arith
above_0 (DoesNotFit n) = omega arith
above_0 IdAbsent = omega arith
above_0 TooFar = omega arith
above_0 (NotMovable i) = omega arith
above_0 StandardUnknown = omega arith
above_0 (Repeated i) = omega arith

pub granted_exactly : {a : Answer} {r : ℕ} → Numbered a → Says a r → (r / 4294967296 ≡ 0) ↔ ((n : ℕ) × (a ≡ Ok n))
granted_exactly (granted n) h = (λ _. (n, refl), λ _. h.number)
granted_exactly (refused f) h = (λ e. absurd (omega (arith, h.number, above_0 f)), λ g. absurd (never g.0 g.1))
  where
    never : (n : ℕ) → Err f ≡ Ok n → ⊥
    never n e = let z : ◌≡◌ {A = ℕ} 0 1 = cc in omega arith

-- what is handed out: a count or D, or the paper's number of a fault with its extra number
pub handed_out : (a : Answer) {r : ℕ} → Says a r → ((r / 4294967296 ≡ 0) ⊎ ((f : Fault) × (r / 4294967296 ≡ (refusal f).number) × (r % 4294967296 ≡ (refusal f).extra)))
handed_out (Ok n) h = inl h.number
handed_out (Err f) h = inr (f, h.number, h.value)
