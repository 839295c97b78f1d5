-- Inside: the rows of noted positions. Assumes nothing.
use Rattle.std.specs.Prelude.{ℕ, List, map}
use Rattle.ground.specs.Rows.{Row}
use Rattle.spacing.specs.Pair.{Assignment}
use Rattle.stations.specs.Image.{station_at}
use Rattle.checks.specs.Check.{row_of}

abbrev pub rows_at : (ℕ → ℕ → ℕ → ℕ) → List ℕ → Assignment → List ℕ → List Row
rows_at km s p vs = map (λ j. row_of km p (station_at s j)) vs
