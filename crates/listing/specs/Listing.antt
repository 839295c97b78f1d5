-- Inside: the rows that the marks of the new channels and the flags of the moves make. Assumes nothing.
use Rattle.std.specs.Prelude.{ℕ, suc, ◌-◌, ◌≤◌, Bool, cond, List, [], ◌∷◌, eqb}
use Rattle.ground.specs.Lists.{span, each}
use Rattle.part73.specs.Channels.{new_channels}
use Rattle.stations.specs.Image.{station_at, count}
use Rattle.marking.specs.Marks.{many, mark_of}
use Rattle.marking.specs.declared.Channels.{Channels}
use Rattle.planning.specs.Flags.{Mark, flag_of, row_of}

-- the ids of a table, by position
abbrev pub id_at : List ℕ → ℕ → ℕ
id_at s j = (station_at s j).id

-- the numbers of one move
abbrev pub move_at : List Bool → ℕ → ℕ → ℕ → List ℕ
move_at row id c m = cond (flag_of row m) (c ∷ id ∷ m ∷ []) []

-- the numbers of one station's moves
abbrev pub move_rows : List Bool → ℕ → ℕ → List ℕ
move_rows row id c = each (move_at row id c) new_channels

-- the numbers of one new channel, by its mark
unfoldable pub mark_rows : (ℕ → ℕ) → List Bool → ℕ → ℕ → List ℕ
mark_rows id row c v = cond (eqb v 0) (c ∷ 0 ∷ 0 ∷ []) (cond (eqb v many) [] (move_rows row (id (v - 1)) c))

abbrev pub channel_rows : (ℕ → ℕ) → List ℕ → ℕ → List (List Bool) → ℕ → List ℕ
channel_rows id marks first moves c = mark_rows id (row_of first moves c) c (mark_of marks c)

-- the numbers of new channels
abbrev pub all_rows : (ℕ → ℕ) → List ℕ → Channels → List (List Bool) → List ℕ
all_rows id marks c moves = each (channel_rows id marks c.first moves) (span c.first (suc c.last - c.first))

-- the marks of new channels are marks of a survey of the table
pub record Surveyed (s : List ℕ) (c : Channels) (marks : List ℕ) : Type 0 where
  pub at : (m : ℕ) → c.first ≤ m → m ≤ c.last → Mark (count s) (mark_of marks m)
