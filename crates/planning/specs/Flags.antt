-- Inside: where the lone blocker of each new channel may go, as flags: a row of 80 for each new channel. Assumes nothing.
use Rattle.std.specs.Prelude.{ℕ, suc, ◌-◌, ◌<◌, ◌≤◌, Bool, true, false, not, ◌&&◌, ◌||◌, List, [], ◌⊎◌, ◌≡◌, eqb, length, get_or, Option, MatchOption}
use Rattle.part73.specs.Channels.{lowest, highest}
use Rattle.part73.specs.Columns.{gap}
use Rattle.spacing.specs.Reaching.{hits, Reaches}
use Rattle.spacing.specs.declared.Place.{Place}
use Rattle.stations.specs.Image.{station_at, count}
use Rattle.stations.specs.Lists.{movable}
use Rattle.stations.specs.declared.Station.{Station}
use Rattle.survey.specs.Ways.{on_channel, place_of}
use Rattle.survey.specs.Walking.{blocks}
use Rattle.marking.specs.Marks.{many, seen, mark_of, Marked}
use Rattle.marking.specs.declared.Channels.{Channels}
use Rattle.planning.specs.Scene.{Scene, allowed}
use Rattle.planning.specs.declared.Blocker.{Blocker}

-- ---- marks

-- one that a table of n stations can have
abbrev pub Mark : ℕ → ℕ → Type 0
Mark n v = (v ≡ many → ⊥) → v ≤ n

-- one of a station alone
abbrev pub Lone : ℕ → Type 0
Lone v = (0 < v) × (v < many)

-- what is told of a mark: the position of the station that it is of, where it is of one alone
abbrev pub IsLone : ℕ → Option ℕ → Type 0
IsLone v answer = MatchOption answer ((v ≡ 0) ⊎ (v ≡ many)) (λ i. (v ≡ suc i) × (v < many))

-- the station that a mark is of
abbrev pub station_of : List ℕ → ℕ → Station
station_of s v = station_at s (v - 1)

-- a mark is of one station alone, and that one is movable
abbrev pub may_move : List ℕ → ℕ → Bool
may_move s v = not (eqb v 0) && (not (eqb v many) && movable (station_of s v))

-- what is told of a mark of a table: the position of that station
abbrev pub IsMover : List ℕ → ℕ → Option ℕ → Type 0
IsMover s v answer = MatchOption answer (may_move s v ≡ false) (λ i. (may_move s v ≡ true) × (v ≡ suc i) × (i < count s))

-- the marks from the site of the station at i
abbrev pub Kept : (ℕ → ℕ → ℕ → ℕ) → (Station → Bool) → List ℕ → ℕ → List ℕ → Type 0
Kept km look s i kept = Marked (λ m j. blocks km look s (on_channel m (station_at s i)) j) lowest highest (count s) kept

-- what is known of the station at i: it is this one, and the new one at p reaches it so
pub record Meets (km : ℕ → ℕ → ℕ → ℕ) (s : List ℕ) (p : Place) (i : ℕ) (b : Blocker) : Type 0 where
  pub mark : b.mark ≡ suc i
  pub own : b.own ≡ (station_at s i).channel
  pub reach : Reaches km p (place_of (station_at s i)) b.reach

-- ---- where a marked station may go

-- not to its own channel; the mark there, from its site, is of nobody or its own; and the new one does not meet it there
abbrev pub goes : ℕ → ℕ → ℕ → ℕ → Bool → Bool
goes there mark m own meets = not (eqb m own) && ((eqb there 0 || eqb there mark) && not meets)

-- by the marks from its site and what is known of it, with the new one on c
abbrev pub goes_from : Blocker → ℕ → List ℕ → ℕ → Bool
goes_from b c kept m = goes (mark_of kept m) b.mark m b.own (hits b.reach (gap c m))

-- ---- flags

-- the flag of a channel in a row
abbrev pub flag_of : List Bool → ℕ → Bool
flag_of row m = get_or row (m - lowest) false

-- the row of the new channel c; that of the channel `first` is the first
abbrev pub row_of : ℕ → List (List Bool) → ℕ → List Bool
row_of first moves c = get_or moves (c - first) []

-- the flags hold a row for each new channel
abbrev pub Room : Channels → List (List Bool) → Type 0
Room c moves = c.last - c.first < length moves

-- the flags of a row are f
pub record Rowed (f : ℕ → Bool) (row : List Bool) : Type 0 where
  pub at : (m : ℕ) → lowest ≤ m → m ≤ highest → flag_of row m ≡ f m

-- those of the new channels from c on are down
pub record Down (first c : ℕ) (moves : List (List Bool)) : Type 0 where
  pub at : (x : ℕ) → c ≤ x → Rowed (λ m. false) (row_of first moves x)

-- a row says where the station that v marks may go, if it marks one alone
abbrev pub Right : Scene → ℕ → ℕ → List Bool → Type 0
Right t c v row = Lone v → Rowed (allowed t c (v - 1)) row

-- the rows of the new channels before c are right, and those from c on are down
pub record Planned (t : Scene) (first c : ℕ) (moves : List (List Bool)) : Type 0 where
  pub done : (x : ℕ) → first ≤ x → x < c → Right t x (seen (t.new x) t.size) (row_of first moves x)
  pub down : Down first c moves
