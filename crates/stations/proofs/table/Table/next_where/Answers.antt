use Prim.Native.Nat.{◌+◌}
use native.Mathlib.Omega.{arith}
use Rattle.ground.proofs.Passes.{pass_one}
use Rattle.stations.proofs.table.Table.next_where.Goals as goal

-- the records before the third of four do not pass the test
pub returns-then-test-3 : goal.returns-then-test-3
returns-then-test-3 g c =
    let w1 = pass_one c.loop-j.invariant (c.loop-j.j + 1) (omega arith) (omega arith) c.if-test.ensures in
    let w2 = pass_one w1 (c.loop-j.j + 2) (omega arith) (omega arith) c.if-test-2.ensures in
    (w2, omega arith, c.if-test-3.ensures)

pub returns-then-test-4 : goal.returns-then-test-4
returns-then-test-4 g c =
    let w1 = pass_one c.loop-j.invariant (c.loop-j.j + 1) (omega arith) (omega arith) c.if-test.ensures in
    let w2 = pass_one w1 (c.loop-j.j + 2) (omega arith) (omega arith) c.if-test-2.ensures in
    let w3 = pass_one w2 (c.loop-j.j + 3) (omega arith) (omega arith) c.if-test-3.ensures in
    (w3, omega arith, c.if-test-4.ensures)

pub loop-j-preserved : goal.loop-j-preserved
loop-j-preserved g c =
    let w1 = pass_one c.loop-j.invariant (c.loop-j.j + 1) (omega arith) (omega arith) c.if-test.ensures in
    let w2 = pass_one w1 (c.loop-j.j + 2) (omega arith) (omega arith) c.if-test-2.ensures in
    let w3 = pass_one w2 (c.loop-j.j + 3) (omega arith) (omega arith) c.if-test-3.ensures in
    pass_one w3 (c.loop-j.j + 4) (omega arith) (omega arith) c.if-test-4.ensures
