use Rattle.std.proofs.Common.{◌-◌, ◌≤◌}
use Rattle.scenes.proofs.limits.edge.Given as goal

abbrev pub invariant-loop-low : goal.invariant-loop-low
invariant-loop-low l = (l.low ≤ l.high) × (l.high ≤ 65536)

abbrev pub decreases-loop-low : goal.decreases-loop-low
decreases-loop-low l = l.high - l.low
