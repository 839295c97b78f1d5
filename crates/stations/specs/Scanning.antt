-- Inside: the records of a table judged from a position on; what a pass over some of them asks for, and what it says.
-- Assumes nothing.
use Rattle.refusals.specs.Faults.{Verdict}
use Rattle.std.specs.Prelude.{◌≡◌, Bool, true, List, ℕ, zero, suc, ◌+◌, ◌*◌, ◌/◌, ◌≤◌, drop}
use Rattle.versions.specs.Version.{top}
use Rattle.stations.specs.Image.{station_at, stations, version, count, scan, scanned, Headed}

-- the id before a position; 0 before the first
abbrev pub id_before : List ℕ → ℕ → ℕ
id_before s zero = 0
id_before s (suc i) = (station_at s i).id

-- the records from a position on, each in turn
unfoldable pub scanned_from : List ℕ → ℕ → Verdict
scanned_from s i = scan (top (version s)) i (id_before s i) (drop i (stations s))

-- the header is right, and t are the highest flags of its version
pub record Topped (s : List ℕ) (t : ℕ) : Type 0 where
  pub headed : Headed s
  pub flags : t ≡ top (version s)

-- k records from a place on are among those that the header counts; `last` is the id before them
pub record Ahead (s : List ℕ) (t k at last : ℕ) : Type 0 where
  pub topped : Topped s t
  pub placed : at ≡ 8 + 16 * (at / 16)
  pub within : at / 16 + k ≤ count s
  pub before : last ≡ id_before s (at / 16)

-- b says of the k records from a position on that nothing is wrong with them
pub record Passed (s : List ℕ) (i k : ℕ) (b : Bool) : Type 0 where
  pub sound : b ≡ true → scanned_from s i ≡ scanned_from s (i + k)

-- nothing is wrong with the header, nor with the records before a place
pub record SoundTo (s : List ℕ) (at : ℕ) : Type 0 where
  pub headed : Headed s
  pub placed : at ≡ 8 + 16 * (at / 16)
  pub within : at / 16 ≤ count s
  pub sound : scanned s ≡ scanned_from s (at / 16)
