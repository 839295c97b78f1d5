use Rattle.std.proofs.Common.{◌≡◌, ◌<◌, ℕ, get_or, length}
use Rattle.part73.specs.Standards.{chosen}
use Rattle.standards.proofs.co_channel_of.Given as goal

abbrev pub invariant-loop-b : goal.invariant-loop-b
invariant-loop-b l = record { long : length l.out ≡ 8; at : (j : ℕ) → j < l.b → get_or l.out j 0 ≡ chosen l.standard l.class j 0 }
