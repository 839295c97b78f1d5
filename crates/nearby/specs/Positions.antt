-- Inside: the positions of the stations that a proposal is short to, and how a walk over the table finds and notes them.
-- Assumes nothing.
use Rattle.std.specs.Prelude.{◌≡◌, Bool, true, false, List, ℕ, ◌%◌, ◌≤◌, ◌<◌, length, get_or, Option, MatchOption}
use Rattle.ground.specs.Lists.{span, keep}
use Rattle.ground.specs.Passing.{Passing}
use Rattle.part73.specs.Channels.{lowest, highest}
use Rattle.part73.specs.Columns.{gap, none}
use Rattle.spacing.specs.Pair.{Assignment, column_for}
use Rattle.stations.specs.Image.{station_at, count}
use Rattle.stations.specs.declared.Station.{Station}
use Rattle.survey.specs.Walking.{blocks}

-- of the records those that are looked at and short, in table order
unfoldable pub short_positions : (ℕ → ℕ → ℕ → ℕ) → (Station → Bool) → List ℕ → Assignment → List ℕ
short_positions km look s p = keep (blocks km look s p) (span 0 (count s))

-- a channel that a proposal or a moved station may have
pub record Asked (channel : ℕ) : Type 0 where
  pub low : lowest ≤ channel
  pub high : channel ≤ highest

-- of the channels from 201 to 300, by the last bytes of their numbers: where one is said to be free, no column applies to it
-- and this channel
pub record Free (channel : ℕ) (free : List Bool) : Type 0 where
  pub long : length free ≡ 256
  pub tells : (c : ℕ) → 201 ≤ c → c ≤ 300 → get_or free (c % 256) false ≡ true → column_for channel c ≡ none

-- the channels at a difference from one were said not to be free
pub record Held (channel d : ℕ) (entry exit : List Bool) : Type 0 where
  pub long : length exit ≡ 256
  pub tells : (c : ℕ) → 201 ≤ c → c ≤ 300 → get_or exit (c % 256) false ≡ true → (gap channel c ≡ d → ⊥) × (get_or entry (c % 256) false ≡ true)

-- from one position to another every record's channel is free
abbrev pub Unheld : List ℕ → List Bool → ℕ → ℕ → Type 0
Unheld s free from to = Passing (λ j. get_or free ((station_at s j).channel % 256) false ≡ true) (count s) from to

-- the first position from one on whose record's channel is not free, or none
abbrev pub NextHeld : List ℕ → List Bool → ℕ → Option ℕ → Type 0
NextHeld s free from answer = MatchOption answer (Unheld s free from (count s)) (λ i. Unheld s free from i × (i < count s))

-- none of the records from one position to another is looked at and short
abbrev pub Clear : (ℕ → ℕ → ℕ → ℕ) → (Station → Bool) → List ℕ → Assignment → ℕ → ℕ → Type 0
Clear km look s p from to = Passing (λ j. blocks km look s p j ≡ false) (count s) from to

-- the first position from one on whose record is looked at and p is short to, or none
abbrev pub NextShort : (ℕ → ℕ → ℕ → ℕ) → (Station → Bool) → List ℕ → Assignment → ℕ → Option ℕ → Type 0
NextShort km look s p from answer =
    MatchOption answer (Clear km look s p from (count s)) (λ i. Clear km look s p from i × (i < count s) × (blocks km look s p i ≡ true))
