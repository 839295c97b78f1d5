use mathlib.Core.Path.{ap, ◌∙◌}
use native.Mathlib.Nat.{lt_of_le_of_lt}
use native.Mathlib.Omega.{arith}
use lib.Dec.{lit<}
use Rattle.distance.specs.Distance.{S, D}
use Rattle.distance.proofs.Squares.{S-size}
use Rattle.distance.proofs.Rounding.{D-short}
use Rattle.neighbours.proofs.km_between.Goals as goal

pub rounded_km-d-requires : goal.rounded_km-d-requires
rounded_km-d-requires c = rw c.square_between-s.ensures (S-size c.requires.0.placed c.requires.1.placed)

pub overflow_cast-result : goal.overflow_cast-result
overflow_cast-result c =
    let l = S-size c.requires.0.placed c.requires.1.placed in
    let k = (D-short (S c.args.p.latitude c.args.p.longitude c.args.q.latitude c.args.q.longitude) 50000 (lt_of_le_of_lt l (lit< tt)) (lit< tt)).1 (lt_of_le_of_lt l (lit< tt)) in
    omega (arith, k, c.rounded_km-d.ensures ∙ ap D c.square_between-s.ensures)
