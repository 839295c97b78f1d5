use mathlib.Core.Path.{◌≡◌, sym, ap, ◌∙◌}
use mathlib.Core.List.{List}
use Prim.Native.Nat.{ℕ, ◌*◌, ◌/◌, ◌<◌}
use lib.ListN.{get_or}
use native.Mathlib.Omega.{arith}
use Rattle.versions.specs.Version.{limit}
use Rattle.versions.proofs.Versions.{limit_small}
use Rattle.repeats.specs.Records.{number, number_at, Twice}
use Rattle.repeats.specs.Slots.{slots as many, begin, onward}
use Rattle.repeats.proofs.Records.{common}
use Rattle.repeats.proofs.Slots.{begins, goes, walk_start, walk_in, walk_on, walk-met, walk_end}
use Rattle.repeats.proofs.free_slot.Goals as goal
use Rattle.repeats.proofs.free_slot.Goals.{After-beginning-slot, In-loop-met, After-next_slot-slot}

few : {table : List ℕ} {own : ℕ} → Twice table own → own / 2 < limit
few t = omega (arith, t.holds.few)

-- the record's number, and where its way begins
numbered : (c : After-beginning-slot) → c.number_of-left.result ≡ number_at c.args.table.now (c.args.own / 2)
numbered c = c.number_of-left.ensures ∙ ap number c.subject_at-r.ensures

begun : (c : After-beginning-slot) → c.beginning-slot.result ≡ begin (number_at c.args.table.now (c.args.own / 2))
begun c = c.beginning-slot.ensures ∙ ap begin (numbered c)

-- who is met stands before the record
pub record Met (own met : ℕ) : Type 0 where
  pub even : met ≡ 2 * (met / 2)
  pub earlier : met / 2 < own / 2
  pub low : met / 2 < limit

earlier : (c : In-loop-met) → Met c.args.own c.loop-met.met
unfolding limit
earlier c =
    let f = few c.requires.twice in
    let k = walk-met _ _ (common _) _ _ c.requires.kept f _ _ _ c.loop-met.invariant c.loop-met-test.true in
    record { even = omega (arith, k.2); earlier = omega (arith, k.1, k.2); low = omega (arith, k.1, k.2, f) }

-- the next slot is one of them
onto : (c : After-next_slot-slot) → Met c.args.own c.loop-met.met → c.next_slot-slot.result < many
onto c m = rw (c.next_slot-slot.ensures, m.even) (goes _ _ m.low)

pub offset_bounds-slots-slot : goal.offset_bounds-slots-slot
offset_bounds-slots-slot c = omega (arith, c.beginning-slot.ensures, begins c.number_of-left.result)

pub bounds-slots-slot : goal.bounds-slots-slot
bounds-slots-slot c = omega (arith, c.beginning-slot.ensures, begins c.number_of-left.result)

pub loop-met-init : goal.loop-met-init
loop-met-init c =
    let b = (goal.at.loop-met-init c).After-beginning-slot in
    rw (begun b, numbered b) (walk_start _ _ _ _)

pub agree-requires : goal.agree-requires
agree-requires c =
    let m = earlier c in
    record { twice = c.requires.twice; even = m.even; earlier = m.earlier; is = c.subject_at-r.ensures }

pub returns-then-agree : goal.returns-then-agree
unfolding limit
returns-then-agree c =
    let m = earlier (goal.at.returns-then-agree c).In-loop-met in
    record { upto = omega arith; met = λ _. (_, m.earlier, sym c.agree.ensures ∙ c.if-agree.true); alone = λ h. absurd (omega arith) }

pub offset_bounds-slots-slot-in-loop-met : goal.offset_bounds-slots-slot-in-loop-met
offset_bounds-slots-slot-in-loop-met c = let at = goal.at.offset_bounds-slots-slot-in-loop-met c in omega (arith, onto at.After-next_slot-slot (earlier at.In-loop-met), limit_small)

pub bounds-slots-slot-in-loop-met : goal.bounds-slots-slot-in-loop-met
unfolding limit
bounds-slots-slot-in-loop-met c = let at = goal.at.bounds-slots-slot-in-loop-met c in onto at.After-next_slot-slot (earlier at.In-loop-met)

pub loop-met-smaller : goal.loop-met-smaller
loop-met-smaller c =
    let m = earlier (goal.at.loop-met-smaller c).In-loop-met in
    let up : c.loop-met.met < get_or c.args.slots.now (onward c.loop-met.met c.loop-met.left) 0 = rw (← m.even) at (c.requires.kept.later (c.loop-met.met / 2) c.loop-met.left m.low) in
    rw c.next_slot-slot.ensures (omega (arith, m.even, m.earlier, c.requires.twice.even, up))

pub loop-met-preserved : goal.loop-met-preserved
loop-met-preserved c =
    let m = earlier (goal.at.loop-met-preserved c).In-loop-met in
    rw c.next_slot-slot.ensures (walk_on _ _ _ _ _ _ _ _ c.loop-met.invariant m.even m.low (sym c.agree.ensures ∙ c.if-agree.false))

pub returns : goal.returns
unfolding limit
returns c =
    let h = walk_in c.loop-met.invariant in
    let f = few c.requires.twice in
    record { upto = omega arith; met = λ e. absurd (omega arith); alone = λ _. walk_end _ _ (common _) _ _ c.requires.kept f _ _ _ c.loop-met.invariant c.loop-met-test.false }
