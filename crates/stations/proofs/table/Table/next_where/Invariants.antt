use Rattle.std.proofs.Common.{false, ◌-◌}
use Rattle.ground.specs.Passing.{Passing}
use Rattle.stations.specs.Image.{count}
use Rattle.stations.proofs.table.Table.next_where.Given as goal

abbrev pub invariant-loop-j : goal.invariant-loop-j
invariant-loop-j g l = Passing (λ k. goal.F-post g l.test k false) (count l.self.image.now) l.from l.j

abbrev pub decreases-loop-j : goal.decreases-loop-j
decreases-loop-j g l = l.n - l.j

abbrev pub invariant-loop-i : goal.invariant-loop-i
invariant-loop-i g l = Passing (λ k. goal.F-post g l.test k false) (count l.self.image.now) l.from l.i
