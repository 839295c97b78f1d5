use Rattle.std.proofs.Common.{rules}
use Rattle.versions.specs.Version.{limit}
use Rattle.telling.proofs.tell_change.Goals as goal

pub tell_refusal-requires : goal.tell_refusal-requires
unfolding limit
tell_refusal-requires c = search rules
