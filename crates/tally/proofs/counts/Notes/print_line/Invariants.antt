use Rattle.std.proofs.Common.{◌≤◌}
use Rattle.tally.proofs.counts.Notes.print_line.Given as goal

abbrev pub invariant-loop-kind : goal.invariant-loop-kind
invariant-loop-kind l = l.missing ≤ l.kind-index
