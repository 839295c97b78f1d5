use mathlib.Core.List.{[]}
use Rattle.std.proofs.Common.{◌≡◌, ◌<◌, ℕ, get_or, length}
use Rattle.spacing.proofs.limiting.limits_by.Given as goal

-- the parts before b are the row's
abbrev pub invariant-loop-b : goal.invariant-loop-b
invariant-loop-b l = record { long : length l.row ≡ 8; at : (j : ℕ) → j < l.b → get_or l.row j [] ≡ get_or (get_or l.squares l.p.class []) j [] }
