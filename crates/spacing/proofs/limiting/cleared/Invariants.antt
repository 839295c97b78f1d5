use Rattle.std.proofs.Common.{◌≡◌, ◌<◌, ℕ, get_or, length}
use Rattle.spacing.specs.Limits.{east_of}
use Rattle.spacing.proofs.limiting.cleared.Given as goal

abbrev pub invariant-loop-b : goal.invariant-loop-b
invariant-loop-b l = record { long : length l.out ≡ 8; at : (j : ℕ) → j < l.b → get_or l.out j 0 ≡ east_of l.scale (get_or l.separations j 0) }
