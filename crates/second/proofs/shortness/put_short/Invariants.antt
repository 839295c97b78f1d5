use Rattle.std.proofs.Common.{◌+◌, ◌*◌, ◌≤◌}
use Rattle.second.proofs.shortness.put_short.Given as goal

abbrev pub invariant-loop-record : goal.invariant-loop-record
invariant-loop-record l = l.rows.numbers ≤ l.initial.rows.numbers + 3 * l.record-index
