use lib.ListN.{take}
use Rattle.ground.specs.Rows.{flat}
use Rattle.ground.specs.Puts.{Puts}
use Rattle.part73.specs.Standards.{chosen}
use Rattle.spacing.specs.Pair.{sited}
use Rattle.checks.specs.Positions.{rows_at}
use Rattle.checks.proofs.writing.put_noted.Given as goal

abbrev pub invariant-loop-i : goal.invariant-loop-i
invariant-loop-i l = let s = l.study in Puts (flat (rows_at (chosen s.terms.standard) s.table.image.now (sited s.place l.channel) (take l.i-index l.positions))) l.initial.rows l.rows
