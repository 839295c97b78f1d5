use Rattle.std.proofs.Common.{rules}
use Rattle.versions.specs.Version.{limit}
use Rattle.streams.proofs.Pieces.{tells_as}
use Rattle.telling.proofs.Rooms.{within}
use Rattle.programs.proofs.Printing.{change-printed}
use Rattle.programs.proofs.change.Goals as goal

pub tell_change-requires : goal.tell_change-requires
unfolding limit
tell_change-requires c = (search rules, within _ (search rules) c.asked_change-answer.ensures)

pub returns : goal.returns
unfolding limit
returns c = tells_as (change-printed c.args.input.now (search rules) c.asked_change-answer.ensures) c.tell_change.ensures
