use Rattle.reasons.proofs.Reasons.{names}
use Rattle.reasons.proofs.reason.Goals as goal

pub part_of-part-requires : goal.part_of-part-requires
part_of-part-requires c = names _ _ _ c.answer-answer.ensures
