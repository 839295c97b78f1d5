use Rattle.std.proofs.Common.{arith, ◌≡◌, ◌+◌, ◌-◌, ◌*◌, ◌^◌, ◌<◌}
use Rattle.wire.proofs.Le.{none_low, next_low}
use Rattle.wire.proofs.Width.{one_more}
use Rattle.wire.proofs.low.Goals as goal

-- a byte more keeps the bits below their power, and in 32 bits
next : (g : _) → (c : goal.After-from g) → let k = g.T.Number.WIDTH - c.loop-i.i in (c.loop-i.number * 256 + c.from.result < 256 ^ (k + 1)) × (c.loop-i.number * 256 + c.from.result < 2 ^ 32)
next g c =
    let l = c.loop-i in
    one_more (g.T.Number.WIDTH - l.i) l.number c.from.result (omega (arith, g.met.T.Number.short)) l.invariant.short (omega (arith, c.type_inv.s (c.args.at + (l.i - 1))))

pub loop-i-init : goal.loop-i-init
loop-i-init g c =
    let e : g.T.Number.WIDTH - c.WIDTH-i.result ≡ 0 = omega arith in
    rw e (record { so_far = none_low c.args.s.now (c.args.at + c.WIDTH-i.result); short = omega arith })

pub overflow_mul-number : goal.overflow_mul-number
overflow_mul-number g c =
    let l = c.loop-i in
    record { fits = omega (arith, one_more (g.T.Number.WIDTH - l.i) l.number 0 (omega (arith, g.met.T.Number.short)) l.invariant.short (omega arith)) }

pub overflow_add-number : goal.overflow_add-number
overflow_add-number g c = record { fits = omega (arith, next g c) }

pub loop-i-preserved : goal.loop-i-preserved
loop-i-preserved g c =
    let l = c.loop-i in
    let e : g.T.Number.WIDTH - (l.i - 1) ≡ g.T.Number.WIDTH - l.i + 1 = omega arith in
    let f : c.args.at + (l.i - 1) + 1 ≡ c.args.at + l.i = omega arith in
    rw e (record { so_far = omega (arith, next_low (g.T.Number.WIDTH - l.i) c.args.s.now (c.args.at + (l.i - 1)), rw f at (next_low (g.T.Number.WIDTH - l.i) c.args.s.now (c.args.at + (l.i - 1)))); short = (next g c).0 })
