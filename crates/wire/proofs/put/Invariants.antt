use Rattle.std.proofs.Common.{◌≡◌}
use Rattle.wire.specs.Be.{put}
use Rattle.wire.proofs.put.Given as goal

abbrev pub invariant-loop-i : goal.invariant-loop-i
invariant-loop-i g l = put l.i l.s l.at l.bits ≡ put g.T.Number.WIDTH l.initial.s l.at (g.T.Number.bits l.fn.v)
