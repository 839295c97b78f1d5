-- Inside: a mark for each channel from 221 to 300, that says who stands in the way there. Assumes nothing.
use Rattle.std.specs.Prelude.{◌≡◌, Bool, false, cond, List, ℕ, zero, suc, ◌+◌, ◌-◌, ◌≤◌, ◌<◌, eqb, length, get_or}
use Rattle.part73.specs.Channels.{lowest, highest, channel_count}
use Rattle.part73.specs.Columns.{gap, none, column}
use Rattle.marking.specs.declared.Channels.{Channels}

-- new channels that may be asked for
pub record Asked (c : Channels) : Type 0 where
  pub low : lowest ≤ c.first
  pub some : c.first ≤ c.last
  pub high : c.last ≤ highest

-- a mark: 0 for nobody, j + 1 for the one at position j alone, `many` for two or more
abbrev pub many : ℕ
many = 65535

-- the mark, where one more stands in the way
unfoldable pub join : ℕ → ℕ → ℕ
join mark who = cond (eqb mark 0) (who + 1) many

-- the mark of those of the first n positions that stand in the way
unfoldable pub seen : (ℕ → Bool) → ℕ → ℕ
seen way zero = 0
seen way (suc n) = cond (way n) (join (seen way n) n) (seen way n)

-- the mark of a channel
abbrev pub mark_of : List ℕ → ℕ → ℕ
mark_of marks m = get_or marks (m - lowest) 0

-- the marks of the channels from first to last
pub record Marked (way : ℕ → ℕ → Bool) (first last n : ℕ) (marks : List ℕ) : Type 0 where
  pub long : length marks ≡ channel_count
  pub at : (m : ℕ) → first ≤ m → m ≤ last → mark_of marks m ≡ seen (way m) n

-- one more stands in the way on the channels that are hit
pub record Struck (hit : ℕ → Bool) (first last who : ℕ) (entry exit : List ℕ) : Type 0 where
  pub long : length exit ≡ channel_count
  pub at : (m : ℕ) → first ≤ m → m ≤ last → mark_of exit m ≡ cond (hit m) (join (mark_of entry m) who) (mark_of entry m)

pub record Wiped (marks : List ℕ) : Type 0 where
  pub long : length marks ≡ channel_count
  pub at : (k : ℕ) → k < channel_count → get_or marks k 0 ≡ 0

-- where r is false, no channel from first to last has a requirement against channel c
pub record Touches (c : ℕ) (channels : Channels) (r : Bool) : Type 0 where
  pub none_of : r ≡ false → (m : ℕ) → channels.first ≤ m → m ≤ channels.last → column (gap m c) ≡ none
