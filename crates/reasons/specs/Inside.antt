-- Inside: the neighbours at noted positions, and what the functions after the search ask. Assumes nothing.
use Rattle.std.specs.Prelude.{◌≡◌, true, List, map, ℕ, Ok, Err, Some, None}
use Rattle.ground.specs.Lists.{some}
use Rattle.spacing.specs.Pair.{Assignment}
use Rattle.stations.specs.Image.{station_at, stations, Accepted}
use Rattle.stations.specs.Lists.{has_id}
use Rattle.neighbours.specs.Neighbours.{neighbour_of}
use Rattle.neighbours.specs.declared.Neighbour.{Neighbour}
use Rattle.reasons.specs.Reason.{Why}

-- the neighbours at noted positions
abbrev pub neighbours_at : (ℕ → ℕ → ℕ → ℕ) → List ℕ → Assignment → List ℕ → List Neighbour
neighbours_at km s p vs = map (λ j. neighbour_of km p (station_at s j)) vs

-- an id stands in an accepted table
pub record Stands (s : List ℕ) (id : ℕ) : Type 0 where
  pub accepted : Accepted s
  pub present : some (has_id id) (stations s) ≡ true

-- an answer names a station of it, or nobody
abbrev pub Names : List ℕ → Why → Type 0
Names s (Ok None) = Unit {0}
Names s (Ok (Some n)) = Stands s n.id
Names s (Err f) = Unit {0}
