use Prim.Native.Nat.{◌*◌, ◌/◌, ◌≤◌}
use native.Mathlib.Nat.{mul-le-mul}
use native.Mathlib.Omega.{arith}
use mir.Facts.{to_z-of_z}
use Rattle.distance.specs.Bounds.{MostHalves}
use Rattle.distance.proofs.Nearby.{least_is}
use Rattle.distance.proofs.least_scale.Goals as goal
use Rattle.distance.proofs.least_scale.Goals.{After-half_seconds}

halves : (c : After-half_seconds) → MostHalves c.args.lat c.half_seconds.result
halves c = simp (to_z-of_z c.ranges.lat) at c.half_seconds.ensures

angle : (c : After-half_seconds) → let x = c.half_seconds.result * 2424068405548 / 1000000000 in x * x ≤ 1716100000000000000
angle c = let x = c.half_seconds.result * 2424068405548 / 1000000000 in
    let b : x ≤ 1310000000 = omega (arith, (halves c).most) in
    mul-le-mul b b

pub overflow_sub-least : goal.overflow_sub-least
overflow_sub-least c = omega (arith, angle (goal.at.overflow_sub-least c).After-half_seconds)

pub overflow_sub-result : goal.overflow_sub-result
overflow_sub-result c = omega (arith, angle (goal.at.overflow_sub-result c).After-half_seconds)

pub returns : goal.returns
returns c = least_is c.args.lat c.half_seconds.result (halves (goal.at.returns c).After-half_seconds)
