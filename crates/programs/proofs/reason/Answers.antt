use Rattle.streams.proofs.Pieces.{tells_as}
use Rattle.telling.specs.Texts.{printed, reason_text}
use Rattle.programs.specs.Printed.{printed_reason}
use Rattle.programs.proofs.reason.Goals as goal

pub returns : goal.returns
unfolding printed_reason
returns c = tells_as (λ i. printed (reason_text (c.standard_of-standard.ensures i)) (c.asked_reason-why.ensures i)) c.tell_reason.ensures
