use native.Mathlib.Omega.{arith}
use Rattle.reasons.specs.Inside.{Stands}
use Rattle.reasons.proofs.Part.{stands-within, stands-low}
use Rattle.reasons.proofs.part_of.Goals as goal
use Rattle.reasons.proofs.part_of.Goals.{In-Ok-Some}

-- the station that is named stands in the table
stands : (c : In-Ok-Some) → Stands c.args.table.now c.in-Ok-Some.n.id
stands c =
    let e = rw c.in-Ok-Some.is at c.in-Ok-Some.field-0-is in
    rw (c.in-Ok-Some.is, e) at c.requires

pub overflow_add-result : goal.overflow_add-result
overflow_add-result c = omega (arith, c.begins_at-at.ensures, stands-low _ _ (stands (goal.at.overflow_add-result c).In-Ok-Some))

pub slice_bounds-result-end-2 : goal.slice_bounds-result-end-2
slice_bounds-result-end-2 c = omega (arith, c.begins_at-at.ensures, stands-within _ _ (stands (goal.at.slice_bounds-result-end-2 c).In-Ok-Some))
