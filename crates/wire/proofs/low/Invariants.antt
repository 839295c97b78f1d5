use Rattle.std.proofs.Common.{◌≡◌, ◌+◌, ◌-◌, ◌^◌, ◌<◌}
use Rattle.wire.specs.Le.{le}
use Rattle.wire.proofs.low.Given as goal

abbrev pub invariant-loop-i : goal.invariant-loop-i
invariant-loop-i g l = record { so_far : l.number ≡ le (g.T.Number.WIDTH - l.i) l.s (l.at + l.i); short : l.number < 256 ^ (g.T.Number.WIDTH - l.i) }
