use mathlib.Core.Path.{sym, ap, ◌∙◌}
use Prim.Native.Nat.{ℕ, ◌+◌, ◌*◌, ◌<◌}
use native.Mathlib.Omega.{arith}
use Rattle.stations.specs.Image.{count}
use Rattle.stations.proofs.Places.{place-le, present_first}
use Rattle.survey.proofs.Records.{few}
use Rattle.reasons.proofs.begins_at.Goals as goal
use Rattle.reasons.proofs.begins_at.Goals.{After-place_of}

small : (c : After-place_of) → 8 + 16 * c.place_of.result < 65536
small c = let t = c.args.table.now in
    omega (arith, c.place_of.ensures, place-le t (count t) c.requires.accepted c.args.id, few t c.requires.accepted)

pub overflow_mul-result : goal.overflow_mul-result
overflow_mul-result c = omega (arith, small (goal.at.overflow_mul-result c).After-place_of)

pub overflow_add-result : goal.overflow_add-result
overflow_add-result c = omega (arith, small (goal.at.overflow_add-result c).After-place_of)

pub returns : goal.returns
returns c = let t = c.args.table.now in
    ap (λ (i : ℕ). 8 + 16 * i) (c.place_of.ensures ∙ sym (present_first t (count t) c.requires.accepted c.args.id c.requires.present))
