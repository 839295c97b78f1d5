use Rattle.std.proofs.Common.{◌≤◌}
use Rattle.tally.proofs.counts.print_each.Given as goal

abbrev pub invariant-loop-count : goal.invariant-loop-count
invariant-loop-count l = l.missing ≤ l.count-index
