-- Demand 2 in the owner's words: when a pair of stations is held short. Assumes nothing.
use Rattle.std.specs.Prelude.{◌⊎◌, ℕ, ◌<◌}
use Rattle.distance.specs.Distance.{Rounded}
use Rattle.part73.specs.Columns.{gap, column}
use Rattle.spacing.specs.Pair.{Assignment, square_of}

pub record HeldShort (km : ℕ → ℕ → ℕ → ℕ) (p q : Assignment) : Type 0 where
  -- at least one of them above channel 220
  pub above : (220 < p.channel) ⊎ (220 < q.channel)
  -- their channel difference has one of the four columns
  pub one_of_four : column (gap p.channel q.channel) < 4
  -- the Part 73 method gives a rounded distance: step 6, for their S
  pub distance : ℕ
  pub rounded : Rounded (square_of p q) distance
  -- below the separation for their classes and channel difference
  pub below : distance < km p.class q.class (column (gap p.channel q.channel))
