use mathlib.Core.Path.{◌≡◌}
use Prim.Native.Nat.{◌+◌}
use lib.ListN.{length, take, drop}
use lib.Seq.{sets}
use Rattle.stations.proofs.writing.copy.Given as goal

abbrev pub invariant-loop-k : goal.invariant-loop-k
invariant-loop-k l = (length l.image ≡ length l.initial.image) × (sets l.image (l.to + l.k) (drop l.k (take l.count (drop l.from l.table))) ≡ sets l.initial.image l.to (take l.count (drop l.from l.table)))
