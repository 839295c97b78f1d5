-- Inside: which of two neighbours is kept. Assumes nothing.
use Rattle.std.specs.Prelude.{ltb}
use Rattle.ground.specs.Guard.{given}
use Rattle.neighbours.specs.Neighbours.{shortfall_of}
use Rattle.neighbours.specs.declared.Neighbour.{Neighbour}

-- the later one only where its shortfall is larger
unfoldable pub worse_of : Neighbour → Neighbour → Neighbour
worse_of earlier later = given (ltb (shortfall_of earlier) (shortfall_of later)) later earlier
