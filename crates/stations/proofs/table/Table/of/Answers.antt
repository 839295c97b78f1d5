use mathlib.Core.Path.{sym, ◌∙◌}
use Rattle.stations.proofs.Stages.{is_accepted}
use Rattle.stations.proofs.table.Table.of.Goals as goal

pub invariant_of-result : goal.invariant_of-result
invariant_of-result c = record { accepted = is_accepted _ _ (sym c.judge.ensures ∙ c.in_ok-judge.was) }
