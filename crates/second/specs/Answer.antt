-- What every packed answer keeps.
use Rattle.std.specs.Prelude.{ℕ, ◌+◌, ◌*◌, ◌^◌, ◌≤◌, ◌<◌}
use Rattle.second.specs.declared.answer.Flaw.{Flaw}
use Rattle.second.specs.declared.answer.Flaw.TheVariants.{Id, Channel, Class, Flags, Latitude, Longitude, Again}
use Rattle.second.specs.declared.answer.Refusal.{Refusal}
use Rattle.second.specs.declared.answer.Refusal.TheVariants.{UnderEightBytes, OtherMark, OtherVersion, SixthByte, OtherCount, OtherLength, Record, AskedChannel, AskedClass, AskedZone, NotPermitted, AskedSite, NoId, IdPresent, TooShort, TableFull, NoRoom, IdAbsent, TooFar, NotMovable, AskedStandard}

-- no refusal has a higher number
abbrev pub highest : ℕ
highest = 27

-- the number of what is wrong with a record
abbrev pub flaw_number : Flaw → ℕ
flaw_number Id = 7
flaw_number Channel = 8
flaw_number Class = 9
flaw_number Flags = 10
flaw_number Latitude = 11
flaw_number Longitude = 12
flaw_number Again = 27

-- the number of a refusal
abbrev pub number : Refusal → ℕ
number UnderEightBytes = 1
number OtherMark = 2
number OtherVersion = 3
number SixthByte = 4
number OtherCount = 5
number OtherLength = 6
number (Record flaw position) = flaw_number flaw
number AskedChannel = 13
number AskedClass = 14
number AskedZone = 15
number NotPermitted = 16
number AskedSite = 17
number NoId = 18
number (IdPresent position) = 19
number (TooShort position) = 20
number TableFull = 21
number (NoRoom need) = 22
number IdAbsent = 23
number TooFar = 24
number (NotMovable position) = 25
number AskedStandard = 26

-- its extra number, 0 where there is none
abbrev pub extra : Refusal → ℕ
extra (Record flaw position) = position
extra (IdPresent position) = position
extra (TooShort position) = position
extra (NoRoom need) = need
extra (NotMovable position) = position
extra _ = 0

-- `r` is a refusal, or granted and at most `most`
abbrev pub Packed : ℕ → ℕ → Type 0
Packed most r = (r < (highest + 1) * 2 ^ 32) × (r < 2 ^ 32 → r ≤ most)
