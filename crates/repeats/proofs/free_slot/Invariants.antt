use Prim.Native.Nat.{◌-◌, ◌/◌}
use Rattle.repeats.specs.Records.{agrees, number_at}
use Rattle.repeats.proofs.Slots.{Walking}
use Rattle.repeats.proofs.free_slot.Given as goal

abbrev pub invariant-loop-met : goal.invariant-loop-met
invariant-loop-met l = Walking (agrees l.table) (number_at l.table (l.own / 2)) l.slots (l.own / 2) l.slot l.left l.met

abbrev pub decreases-loop-met : goal.decreases-loop-met
decreases-loop-met l = l.own - l.met
