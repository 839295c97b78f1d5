-- 01, Refusal numbers and their order, with 23 as 02, R-1, and with 3, 5 and 21 as R-3 has them, 26 of R-6 and 27 of R-7: each fault,
-- with the number that it is given and what it returns also. Assumes nothing.
use Rattle.std.specs.Prelude.{ℕ, Result}
use Rattle.refusals.specs.declared.Fault.{Fault}
use Rattle.refusals.specs.declared.Fault.TheVariants.{UnderEightBytes, MarkDiffers, VersionUnknown, SixthByteSet, CountOutside, LengthWrong, IdNotAscending, ChannelOutside, ClassOver, FlagsOver, LatitudeOutside, LongitudeOutside, AskedChannel, AskedClass, AskedZone, NotPermitted, AskedSite, IdZero, IdPresent, Short, TableFull, DoesNotFit, IdAbsent, TooFar, NotMovable, StandardUnknown, Repeated}
use Rattle.refusals.specs.declared.Refusal.{Refusal}

-- what is found: nothing wrong, or the first fault
abbrev pub Verdict : Type 0
Verdict = Result (Unit {0}) Fault

-- what is answered: a number, or the first fault
abbrev pub Answer : Type 0
Answer = Result ℕ Fault

abbrev pub numbered : ℕ → ℕ → Refusal
numbered number extra = record { number = number; extra = extra }

-- the paper's number, and its extra number; 0 where none is named
abbrev pub refusal : Fault → Refusal
refusal UnderEightBytes = numbered 1 0
refusal MarkDiffers = numbered 2 0
refusal VersionUnknown = numbered 3 0
refusal SixthByteSet = numbered 4 0
refusal CountOutside = numbered 5 0
refusal LengthWrong = numbered 6 0
refusal (IdNotAscending position) = numbered 7 position
refusal (ChannelOutside position) = numbered 8 position
refusal (ClassOver position) = numbered 9 position
refusal (FlagsOver position) = numbered 10 position
refusal (LatitudeOutside position) = numbered 11 position
refusal (LongitudeOutside position) = numbered 12 position
refusal AskedChannel = numbered 13 0
refusal AskedClass = numbered 14 0
refusal AskedZone = numbered 15 0
refusal NotPermitted = numbered 16 0
refusal AskedSite = numbered 17 0
refusal IdZero = numbered 18 0
refusal (IdPresent position) = numbered 19 position
refusal (Short position) = numbered 20 position
refusal TableFull = numbered 21 0
refusal (DoesNotFit need) = numbered 22 need
refusal IdAbsent = numbered 23 0
refusal TooFar = numbered 24 0
refusal (NotMovable position) = numbered 25 position
refusal StandardUnknown = numbered 26 0
refusal (Repeated position) = numbered 27 position
