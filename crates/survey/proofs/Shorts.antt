-- The pair rule for a station that may be on any channel from 221 on, by what two stations reach; and for the records of a
-- table that a question looks at. Assumes nothing.
use mathlib.Core.Path.{◌≡◌, sym, ◌∙◌}
use mathlib.Core.Bool.{Bool, true, false, and-false}
use mathlib.Core.List.{List}
use mathlib.Core.Logic.{inl}
use Prim.Native.Nat.{ℕ, ◌≤◌}
use Rattle.part73.specs.Channels.{lowest}
use Rattle.part73.specs.Columns.{gap, none, column}
use Rattle.part73.specs.Standards.{chosen}
use Rattle.part73.specs.Separations.{Separations}
use Rattle.part73.proofs.Chosen.{chosen-table}
use Rattle.spacing.specs.Pair.{Assignment, sited, short_by}
use Rattle.spacing.specs.Limits.{Limited, LimitsAt}
use Rattle.spacing.specs.Reaching.{InRange, hits, Reaches}
use Rattle.spacing.specs.declared.Limits.{Limits}
use Rattle.spacing.specs.declared.Place.{Place}
use Rattle.spacing.specs.declared.Reach.{Reach}
use Rattle.spacing.proofs.Rule.{for_open, open_high, no_column}
use Rattle.stations.specs.Image.{station_at}
use Rattle.stations.specs.declared.Station.{Station}
use Rattle.survey.specs.Ways.{near}
use Rattle.survey.specs.Walking.{blocks}

-- the limits of a walk are by the chosen table
pub walk-limited : (standard : ℕ) {p : Place} {limits : Limits} → ∥ LimitsAt (chosen standard) p limits ∥₁ → Limited (chosen standard) p limits
walk-limited standard held = record { table = chosen-table standard; at = held }

-- what is reached says on which channels
pub hit_at : {km : ℕ → ℕ → ℕ → ℕ} {p q : Place} {r : Reach} → Reaches km p q r → (m c : ℕ) → lowest ≤ m → hits r (gap m c) ≡ short_by km (sited p m) (sited q c)
hit_at w m c lo = sym (w.tells m c (open_high m c (inl lo)))

-- a channel without a requirement against any of a range
pub untouched_at : {km : ℕ → ℕ → ℕ → ℕ} → Separations km → {p q : Place} → InRange p → InRange q → (m c : ℕ) → lowest ≤ m → column (gap m c) ≡ none → false ≡ short_by km (sited p m) (sited q c)
untouched_at table {p} {q} mine their m c lo e = sym (no_column table p q mine their m c (for_open m c (open_high m c (inl lo)) ∙ e))

-- ---- a record stands in the way where it is looked at and short

module _ (km : ℕ → ℕ → ℕ → ℕ) (look : Station → Bool) (s : List ℕ) (p : Assignment) (j : ℕ) where
  pub blocks-looked : look (station_at s j) ≡ true → near km p (station_at s j) ≡ blocks km look s p j
  unfolding blocks
  blocks-looked l = rw l

  pub blocks_aside : look (station_at s j) ≡ false → blocks km look s p j ≡ false
  unfolding blocks
  blocks_aside l = rw l

  pub blocks-spaced : near km p (station_at s j) ≡ false → blocks km look s p j ≡ false
  unfolding blocks
  blocks-spaced e = rw (e, and-false (look (station_at s j)))
