use Rattle.std.proofs.Common.{◌+◌, ◌*◌, ◌≤◌}
use Rattle.second.proofs.enumeration.put_channel.Given as goal

abbrev pub invariant-loop-record : goal.invariant-loop-record
invariant-loop-record l = l.rows.numbers ≤ l.initial.rows.numbers + 240 * l.record-index
