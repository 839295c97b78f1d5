use mathlib.Core.Path.{ap}
use Rattle.streams.proofs.Pieces.{tells_as}
use Rattle.telling.specs.Texts.{distance_text}
use Rattle.programs.specs.Printed.{printed_distance}
use Rattle.programs.proofs.distance.Goals as goal

pub returns : goal.returns
unfolding printed_distance
returns c = tells_as (ap distance_text c.asked_distance-answer.ensures) c.tell_distance.ensures
