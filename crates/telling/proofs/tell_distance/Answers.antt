use Rattle.streams.proofs.Pieces.{tells_as}
use Rattle.telling.proofs.Waiting.{text_waiting}
use Rattle.telling.proofs.tell_distance.Goals as goal

pub returns : goal.returns
returns c = tells_as (text_waiting c.put_distance.ensures) c.hand_over.ensures
