use Rattle.std.proofs.Common.{ap, arith, ℕ, ◌+◌, ◌/◌}
use Rattle.distance.specs.Distance.{D}
use Rattle.distance.proofs.Rounding.{root_unique, root_is}
use Rattle.distance.proofs.rounded_km.Goals as goal

pub returns : goal.returns
unfolding D
returns c =
    let e = c.isqrt.ensures in
    ap (λ (n : ℕ). (n + 5000) / 10000) (root_unique (e.square_le, e.next_square_gt) (root_is 32 c.args.s (omega arith)))
