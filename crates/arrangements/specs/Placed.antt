-- Inside: the enumeration by the positions of the records, as the code goes. Assumes nothing.
use Rattle.std.specs.Prelude.{ℕ, suc, ◌-◌, Bool, not, cond, List, [], ◌∷◌, map}
use Rattle.ground.specs.Lists.{span, each, keep, every}
use Rattle.ground.specs.Rows.{Row, row}
use Rattle.part73.specs.Channels.{new_channels}
use Rattle.planning.specs.Scene.{Scene, allowed}

-- the new station on c is short to nobody
unfoldable pub clear : Scene → ℕ → Bool
clear t c = every (λ j. not (t.new c j)) (span 0 t.size)

-- the rows that move the one at i
unfoldable pub moves_of : Scene → ℕ → ℕ → List Row
moves_of t c i = map (λ m. row c (t.id i) m) (keep (allowed t c i) new_channels)

unfoldable pub moves : Scene → ℕ → List Row
moves t c = each (moves_of t c) (span 0 t.size)

unfoldable pub arranged : Scene → ℕ → List Row
arranged t c = cond (clear t c) (row c 0 0 ∷ []) (moves t c)

unfoldable pub arrangements : Scene → ℕ → ℕ → List Row
arrangements t first last = each (arranged t) (span first (suc last - first))
