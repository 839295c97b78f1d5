use native.Mathlib.Omega.{arith}
use Rattle.reasons.specs.Inside.{Stands}
use Rattle.reasons.proofs.Part.{stands-low}
use Rattle.fms.proofs.locate.Goals as goal

-- the station that is named stands in the table
pub overflow_cast-result : goal.overflow_cast-result
overflow_cast-result c = let stands : Stands c.args.table.now c.in-Some.n.id = rw (c.in_ok-why.was, c.in-Some.is) at c.requires in
    omega (arith, c.begins_at.ensures, stands-low _ _ stands)
