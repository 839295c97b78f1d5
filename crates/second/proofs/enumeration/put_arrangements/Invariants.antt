use Rattle.std.proofs.Common.{◌+◌, ◌*◌, ◌≤◌}
use Rattle.second.specs.Sizes.{capacity}
use Rattle.second.proofs.enumeration.put_arrangements.Given as goal

abbrev pub invariant-loop-channel : goal.invariant-loop-channel
invariant-loop-channel l = l.rows.numbers + 240 * capacity * l.new.channel ≤ l.initial.rows.numbers + 240 * capacity * l.channel
