-- 01, The table image and its refusals 1 to 12, and 27 of 02, R-7, in the papers' order. Assumes nothing.
use Rattle.std.specs.Prelude.{◌≡◌, Bool, not, ◌&&◌, ◌||◌, List, [], ◌∷◌, ℕ, ◌+◌, ◌*◌, ltb, leb, eqb, length, get_or, take, drop, Ok, Err}
use Rattle.std.specs.Int.{w32}
use Rattle.std.proofs.Common.{to_z}
use Rattle.ground.specs.Guard.{given}
use Rattle.ground.specs.Lists.{build}
use Rattle.wire.specs.Be.{be}
use Rattle.distance.specs.Distance.{latitude_ok, longitude_ok}
use Rattle.refusals.specs.Faults.{Verdict, Answer, refusal}
use Rattle.refusals.specs.declared.Fault.{Fault}
use Rattle.refusals.specs.declared.Fault.TheVariants.{UnderEightBytes, MarkDiffers, VersionUnknown, SixthByteSet, CountOutside, LengthWrong, IdNotAscending, ChannelOutside, ClassOver, FlagsOver, LatitudeOutside, LongitudeOutside, Repeated}
use Rattle.versions.specs.Version.{known, carries, top}
use Rattle.repeats.specs.Repeats.{first_repeat}
use Rattle.stations.specs.Lists.{twins}
use Rattle.stations.specs.declared.Station.{Station}

-- ---- what an image says

-- the record whose bytes begin at a place: id (32), channel (16), class (8), flags (8), latitude (32, signed), longitude (32,
-- signed)
abbrev pub station_from : List ℕ → ℕ → Station
station_from s at =
    record {
      id = be 4 s at;
      channel = be 2 s (at + 4);
      class = get_or s (at + 6) 0;
      flags = get_or s (at + 7) 0;
      latitude = to_z w32 (be 4 s (at + 8));
      longitude = to_z w32 (be 4 s (at + 12));
    }

-- the record at a position, after the header's 8 bytes
unfoldable pub station_at : List ℕ → ℕ → Station
station_at s i = station_from s (8 + 16 * i)

-- and its sixteen bytes
abbrev pub bytes_at : List ℕ → ℕ → List ℕ
bytes_at s i = take 16 (drop (8 + 16 * i) s)

-- the header: the mark `FMS`, a 16-bit version, one zero byte, a 16-bit count
abbrev pub version : List ℕ → ℕ
version s = be 2 s 3

abbrev pub count : List ℕ → ℕ
count s = be 2 s 6

-- the table's records, in order
unfoldable pub stations : List ℕ → List Station
stations s = build (count s) (station_at s)

-- ---- how it is judged: stage by stage, each sound or with its first fault

abbrev pub faulty : Fault → Verdict
faulty f = Err f

-- where nothing is wrong, what is found next
abbrev pub then : Verdict → Verdict → Verdict
then (Ok _) v = v
then (Err f) v = Err f

-- the refusals 3 to 6 of the header
unfoldable pub numbers : List ℕ → Verdict
numbers s =
    given (not (known (version s))) (faulty VersionUnknown)
    (given (not (eqb (get_or s 5 0) 0)) (faulty SixthByteSet)
    (given (not (carries (version s) (count s))) (faulty CountOutside)
    (given (not (eqb (length s) (8 + 16 * count s))) (faulty LengthWrong)
    (Ok tt))))

-- the header's: 1, 2, then the numbers'
unfoldable pub headed : List ℕ → Verdict
headed s =
    given (ltb (length s) 8) (faulty UnderEightBytes)
    (given (not (eqb (get_or s 0 0) 70 && eqb (get_or s 1 0) 77 && eqb (get_or s 2 0) 83)) (faulty MarkDiffers)
    (numbers s))

-- the first fault of the record at position i, with flags up to t, after one with the id `last` (0 before the first)
unfoldable pub verdict : ℕ → ℕ → ℕ → Station → Verdict
verdict t last i r =
    given (leb r.id last) (faulty (IdNotAscending i))
    (given (ltb r.channel 201 || ltb 300 r.channel) (faulty (ChannelOutside i))
    (given (ltb 7 r.class) (faulty (ClassOver i))
    (given (ltb t r.flags) (faulty (FlagsOver i))
    (given (not (latitude_ok r.latitude)) (faulty (LatitudeOutside i))
    (given (not (longitude_ok r.longitude)) (faulty (LongitudeOutside i))
    (Ok tt))))))

-- each record in turn, from position i on
unfoldable pub scan : ℕ → ℕ → ℕ → List Station → Verdict
scan t i last [] = Ok tt
scan t i last (r ∷ rs) = then (verdict t last i r) (scan t (i + 1) r.id rs)

-- the refusals 7 to 12 of the records
unfoldable pub scanned : List ℕ → Verdict
scanned s = scan (top (version s)) 0 0 (stations s)

-- the records at two positions are twins
unfoldable pub twins_at : List ℕ → ℕ → ℕ → Bool
twins_at s i j = twins (station_at s i) (station_at s j)

-- the position of the first record that repeats an earlier one; the count where none does
unfoldable pub repeat_of : List ℕ → ℕ
repeat_of s = first_repeat (twins_at s) (count s)

-- the refusal 27 of the table
unfoldable pub repeated : List ℕ → Verdict
repeated s = given (ltb (repeat_of s) (count s)) (faulty (Repeated (repeat_of s))) (Ok tt)

-- the stages, in the papers' order
unfoldable pub stages : List ℕ → List Verdict
stages s = headed s ∷ scanned s ∷ repeated s ∷ []

-- the first fault of a row
abbrev pub first_fault : List Verdict → Verdict
first_fault [] = Ok tt
first_fault (v ∷ vs) = then v (first_fault vs)

-- a table of n records, or its refusal
abbrev pub table_of : Verdict → ℕ → Answer
table_of (Ok _) n = Ok n
table_of (Err f) n = Err f

unfoldable pub judged : List ℕ → Answer
judged s = table_of (first_fault (stages s)) (count s)

-- nothing is wrong with the header
abbrev pub Headed : List ℕ → Type 0
Headed s = headed s ≡ (Ok tt)

-- nothing is wrong with it: it is a table of as many records as its header counts
abbrev pub Accepted : List ℕ → Type 0
Accepted s = judged s ≡ Ok (count s)
