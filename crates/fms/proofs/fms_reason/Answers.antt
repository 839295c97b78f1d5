use Rattle.reasons.proofs.Reasons.{names}
use Rattle.fms.proofs.fms_reason.Goals as goal

pub locate-requires : goal.locate-requires
locate-requires c = names _ _ _ c.answer-why.ensures
