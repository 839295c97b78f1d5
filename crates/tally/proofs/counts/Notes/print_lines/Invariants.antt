use Rattle.std.proofs.Common.{◌*◌, ◌≤◌}
use Rattle.tally.proofs.counts.Notes.print_lines.Given as goal

abbrev pub invariant-loop-number : goal.invariant-loop-number
invariant-loop-number l = l.missing ≤ 8 * l.number
