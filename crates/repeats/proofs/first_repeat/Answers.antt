use mathlib.Core.Path.{◌≡◌, refl}
use Prim.Native.Nat.{◌+◌, ◌*◌, ◌/◌, ◌<◌}
use native.Mathlib.Omega.{arith}
use Rattle.versions.specs.Version.{limit}
use Rattle.versions.proofs.Versions.{limit_small}
use Rattle.repeats.specs.Slots.{slots as many}
use Rattle.repeats.proofs.Records.{common}
use Rattle.repeats.proofs.Slots.{search_start, search_met, search_on}
use Rattle.repeats.proofs.first_repeat.Goals as goal
use Rattle.repeats.proofs.first_repeat.Goals.{Else-slot-eq-SLOTS, In-loop-own}

-- the slot that was found is one of them
within : (c : Else-slot-eq-SLOTS) → c.free_slot-slot.result < many
unfolding limit
within c = omega (arith, c.free_slot-slot.ensures.upto, c.if-slot-eq-SLOTS.false)

-- the position is one of the n, which are no more than the limit
inside : (c : In-loop-own) → (c.loop-own.own / 2 < c.args.n) × (c.loop-own.own < 2 * limit)
inside c = let h = c.requires.few in let e = c.loop-own.invariant.1 in let t = c.loop-own-test.true in (omega arith, omega arith)

pub loop-own-init : goal.loop-own-init
unfolding limit
loop-own-init c = (search_start _ _ _, refl)

pub returns-then-slot-eq-SLOTS : goal.returns-then-slot-eq-SLOTS
unfolding limit
returns-then-slot-eq-SLOTS c = search_met c.loop-own.invariant.0 _ c.free_slot-slot.ensures c.if-slot-eq-SLOTS.true

pub overflow_cast-slots : goal.overflow_cast-slots
overflow_cast-slots c = omega (arith, (inside (goal.at.overflow_cast-slots c).In-loop-own).1, limit_small)

pub offset_bounds-slots-slot : goal.offset_bounds-slots-slot
offset_bounds-slots-slot c = omega (arith, within (goal.at.offset_bounds-slots-slot c).Else-slot-eq-SLOTS, limit_small)

pub bounds-slots-slot : goal.bounds-slots-slot
unfolding limit
bounds-slots-slot c = within (goal.at.bounds-slots-slot c).Else-slot-eq-SLOTS

pub loop-own-preserved : goal.loop-own-preserved
loop-own-preserved c = let v = c.loop-own.invariant in
    let e = v.1 in
    let on : (c.loop-own.own + 2) / 2 ≡ c.loop-own.own / 2 + 1 = omega arith in
    let kept = search_on v.0 (common _) c.requires.few _ (inside (goal.at.loop-own-preserved c).In-loop-own).0 c.free_slot-slot.ensures (within (goal.at.loop-own-preserved c).Else-slot-eq-SLOTS) in
    (rw on (rw (← e) at kept), omega arith)
