use Rattle.std.proofs.Common.{◌≡◌, ◌*◌, ◌≤◌}
use Rattle.distance.specs.Distance.{E, t}
use Rattle.distance.proofs.Series.{up_to}
use Rattle.distance.proofs.cosine.Given as goal

abbrev pub invariant-loop-k : goal.invariant-loop-k
invariant-loop-k l = record { last : l.term ≡ t l.x (2 * l.k); so_far : l.sum ≡ up_to l.x l.k; falls : l.term ≤ l.sum; most : l.sum ≤ E }
