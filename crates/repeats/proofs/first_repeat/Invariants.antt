use mathlib.Core.Path.{◌≡◌}
use Prim.Native.Nat.{◌-◌, ◌*◌, ◌/◌}
use Rattle.repeats.specs.Records.{agrees, number_at}
use Rattle.repeats.proofs.Slots.{Searching}
use Rattle.repeats.proofs.first_repeat.Given as goal

abbrev pub invariant-loop-own : goal.invariant-loop-own
invariant-loop-own l = Searching (number_at l.table) (agrees l.table) l.n l.slots (l.own / 2) × (l.own ≡ 2 * (l.own / 2))

abbrev pub decreases-loop-own : goal.decreases-loop-own
decreases-loop-own l = 2 * l.n - l.own
