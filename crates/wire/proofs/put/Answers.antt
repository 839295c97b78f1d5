use Rattle.std.proofs.Common.{arith, ◌≡◌, ◌+◌, ◌-◌, sym, ◌∙◌}
use Rattle.wire.proofs.Width.{last_put, put-none}
use Rattle.wire.proofs.put.Goals as goal

pub loop-i-preserved : goal.loop-i-preserved
loop-i-preserved g c =
    let l = c.loop-i in
    let e : l.i - 1 + 1 ≡ l.i = omega arith in
    rw e at (sym (last_put (l.i - 1) l.s c.args.at l.bits)) ∙ l.invariant

pub returns : goal.returns
returns g c =
    let l = c.loop-i in
    let e : l.i ≡ 0 = omega arith in
    sym (put-none l.s c.args.at l.bits) ∙ rw e at l.invariant
