-- Demand 3 in the owner's words: which rows are arrangements, and the paper's order. Assumes nothing.
use Rattle.std.specs.Prelude.{ℕ, ◌≤◌, ◌<◌, true, false, List, ◌⊎◌, ◌≡◌}
use Rattle.ground.specs.Lists.{◌∈◌}
use Rattle.ground.specs.Rows.{Row, row}
use Rattle.part73.specs.Channels.{lowest, highest}
use Rattle.spacing.specs.Pair.{Assignment}
use Rattle.stations.specs.Lists.{movable as is_movable, onto}
use Rattle.stations.specs.declared.Station.{Station}
use Rattle.survey.specs.Ways.{near, on_channel}

-- by a table of separations, among the stations ss
module _ (km : ℕ → ℕ → ℕ → ℕ) (ss : List Station) where
  -- p is short to nobody
  abbrev pub Clear : Assignment → Type 0
  Clear p = (x : Station) → x ∈ ss → near km p x ≡ false

  -- to nobody but perhaps r
  abbrev pub ClearBut : Station → Assignment → Type 0
  ClearBut r p = (x : Station) → x ∈ ss → (x.id ≡ r.id → ⊥) → near km p x ≡ false

  -- r, a movable station of them, goes to another channel, m, of 221 to 300, and neither it nor the new station is short to
  -- anybody, each other included
  pub record Move (new : Assignment) (r : Station) (m : ℕ) : Type 0 where
    pub stands : r ∈ ss
    pub movable : is_movable r ≡ true
    pub low : lowest ≤ m
    pub high : m ≤ highest
    pub other : m ≡ r.channel → ⊥
    pub moved : ClearBut r (on_channel m r)
    pub fresh : ClearBut r new
    pub each_other : near km new (onto m r) ≡ false

  -- a clean arrangement that moves no station, or, only where the new channel is blocked as things stand, exactly one
  pub data Arrangement (new : ℕ → Assignment) (first last : ℕ) : Row → Type 0 where
    unmoved : (c : ℕ) → first ≤ c → c ≤ last → Clear (new c) → Arrangement new first last (row c 0 0)
    moving : (c : ℕ) (r : Station) (m : ℕ) → first ≤ c → c ≤ last → (Clear (new c) → ⊥) → Move (new c) r m → Arrangement new first last (row c r.id m)

-- ascending new channel, then id, then moved channel
abbrev pub Before : Row → Row → Type 0
Before x y = (x.a < y.a) ⊎ ((x.a ≡ y.a) × ((x.b < y.b) ⊎ ((x.b ≡ y.b) × (x.c < y.c))))
