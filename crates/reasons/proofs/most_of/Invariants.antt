use mathlib.Core.Path.{◌≡◌}
use lib.ListN.{take}
use Rattle.std.specs.List.{reduce}
use Rattle.part73.specs.Standards.{chosen}
use Rattle.spacing.specs.Pair.{sited}
use Rattle.neighbours.specs.Inside.{worse_of}
use Rattle.reasons.specs.Inside.{neighbours_at}
use Rattle.reasons.proofs.most_of.Given as goal

abbrev pub invariant-loop-i : goal.invariant-loop-i
invariant-loop-i l = let s = l.study in l.most ≡ reduce worse_of (neighbours_at (chosen s.terms.standard) s.table.image.now (sited s.place l.channel) (take l.i-index l.positions))
