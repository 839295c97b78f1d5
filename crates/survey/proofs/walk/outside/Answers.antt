use mathlib.Core.Path.{◌≡◌, sym, ◌∙◌}
use mathlib.Core.Bool.{true}
use mathlib.Core.Logic.{inl, inr}
use Prim.Native.Nat.{ℕ, ◌+◌, ◌*◌, ◌≤◌, ◌<◌}
use native.Mathlib.Omega.{arith}
use lib.ListN.{length}
use mir.Syntax.{w32}
use mir.Val.{to_z, of_z}
use mir.Facts.{of_z-to_z}
use Rattle.stations.specs.Image.{station_at}
use Rattle.framing.specs.Frames.{past}
use Rattle.framing.specs.declared.Span.{Span}
use Rattle.survey.proofs.Records.{room_at, few}
use Rattle.survey.proofs.walk.outside.Goals as goal
use Rattle.survey.proofs.walk.outside.Goals.{Start}

room : (s : Start) → 8 + 16 * s.args.i + 16 ≤ length s.args.table.now.image.now
room s = room_at _ s.args.table.now.accepted s.args.i s.requires

-- what is said of bits that were read is said of the number that they are
read : (s : Span) {x b : ℕ} → x < 4294967296 → x ≡ b → past s x ≡ true → past s (of_z w32 (to_z w32 b)) ≡ true
read s f e p = rw (← e, of_z-to_z (record { fits = f })) p

pub overflow_mul-at : goal.overflow_mul-at
overflow_mul-at c = omega (arith, few _ c.args.table.now.accepted, c.requires)

pub overflow_add-at : goal.overflow_add-at
overflow_add-at c = omega (arith, few _ c.args.table.now.accepted, c.requires)

pub overflow_add-at-2 : goal.overflow_add-at-2
overflow_add-at-2 c = omega (arith, few _ c.args.table.now.accepted, c.requires)

pub get-requires : goal.get-requires
get-requires c = omega (arith, room (goal.at.get-requires c).Start)

pub overflow_add-at-else-away : goal.overflow_add-at-else-away
overflow_add-at-else-away c = omega (arith, few _ c.args.table.now.accepted, c.requires)

pub get-requires-else-away : goal.get-requires-else-away
get-requires-else-away c = omega (arith, room (goal.at.get-requires-else-away c).Start)

pub returns-then-away : goal.returns-then-away
unfolding station_at
returns-then-away c = let g = c.get in
    record { told = λ t. record { either = inl (read _ g.type_inv g.ensures (sym c.away.ensures ∙ c.if-away.true)) } }

pub returns-else-away : goal.returns-else-away
unfolding station_at
returns-else-away c = let g = c.get-else-away in
    record { told = λ t. record { either = inr (read _ g.type_inv g.ensures (sym c.away-else-away.ensures ∙ t)) } }
