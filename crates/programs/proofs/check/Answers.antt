use Rattle.std.proofs.Common.{rules}
use Rattle.versions.specs.Version.{limit}
use Rattle.streams.proofs.Pieces.{tells_as}
use Rattle.telling.proofs.Rooms.{within}
use Rattle.programs.proofs.Printing.{check-printed}
use Rattle.programs.proofs.check.Goals as goal

pub tell_check-requires : goal.tell_check-requires
unfolding limit
tell_check-requires c = (search rules, (search rules, within _ (search rules) c.asked_check-answer.ensures))

pub returns : goal.returns
unfolding limit
returns c = tells_as (check-printed c.args.terms c.args.input.now (search rules) c.asked_check-answer.ensures) c.tell_check.ensures
