use Rattle.std.proofs.Common.{◌+◌, ◌*◌, ◌≤◌}
use Rattle.second.proofs.enumeration.put_mover.Given as goal

abbrev pub invariant-loop-channel : goal.invariant-loop-channel
invariant-loop-channel l = l.rows.numbers + 3 * 221 ≤ l.initial.rows.numbers + 3 * l.channel
