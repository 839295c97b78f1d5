-- 01, The questions: Arrange; 02, R-1, R-6. By enumeration, over the stations that are studied: every new channel of the range;
-- where it is blocked as things stand, every movable station and every channel 221 to 300 but its own; kept where clean.
-- Assumes nothing.
use Rattle.std.specs.Prelude.{ℕ, suc, ◌-◌, Bool, not, cond, ◌&&◌, List, [], ◌∷◌, map, eqb}
use Rattle.ground.specs.Lists.{span, each, keep}
use Rattle.ground.specs.Rows.{Row, row, flat}
use Rattle.part73.specs.Channels.{new_channels}
use Rattle.spacing.specs.Pair.{Assignment}
use Rattle.stations.specs.Lists.{movable, without, onto}
use Rattle.stations.specs.declared.Station.{Station}
use Rattle.survey.specs.Ways.{on_channel, clear}
use Rattle.desk.specs.Answers.{Outcome}
use Rattle.studies.specs.Studies.{asked, study}
use Rattle.studies.specs.declared.Wanted.{Wanted}

-- with the new station in place r may go to m: it is movable, m is not its own channel, and neither the moved station nor
-- the new one is short to anybody, each other included
unfoldable pub allowed : (ℕ → ℕ → ℕ → ℕ) → Assignment → List Station → Station → ℕ → Bool
allowed km new ss r m =
    movable r
    && (not (eqb m r.channel)
    && (clear km (on_channel m r) (without r.id ss)
    && clear km new (onto m r ∷ without r.id ss)))

module _ (km : ℕ → ℕ → ℕ → ℕ) (new : ℕ → Assignment) (ss : List Station) where
  -- the rows of a new channel that move one station
  unfoldable pub moves_of : ℕ → Station → List Row
  moves_of c r = map (λ m. row c r.id m) (keep (allowed km (new c) ss r) new_channels)

  -- the rows of one new channel: 0 and 0 where nothing moves; moves only where it is blocked as things stand
  unfoldable pub arranged : ℕ → List Row
  arranged c = cond (clear km (new c) ss) (row c 0 0 ∷ []) (each (moves_of c) ss)

  -- the rows of the new channels from first to last
  unfoldable pub arrangements : ℕ → ℕ → List Row
  arrangements first last = each arranged (span first (suc last - first))

-- their numbers
abbrev pub rows_for : (ℕ → Assignment) → ℕ → ℕ → (ℕ → ℕ → ℕ → ℕ) → List Station → List ℕ
rows_for new first last km ss = flat (arrangements km new ss first last)

-- the outcome of the question
unfoldable pub arranged_for : List ℕ → Wanted → Outcome
arranged_for s w = study s w (rows_for (asked w) w.first w.last)
