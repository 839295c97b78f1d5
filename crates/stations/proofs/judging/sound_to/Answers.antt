use mathlib.Core.Path.{◌≡◌, refl, ◌∙◌, ap}
use Prim.Native.Nat.{◌+◌, ◌*◌, ◌/◌, ◌≤◌, ◌<◌}
use native.Mathlib.Omega.{arith}
use Rattle.versions.proofs.Versions.{limit_small}
use Rattle.stations.specs.Image.{count}
use Rattle.stations.specs.Scanning.{scanned_from}
use Rattle.stations.proofs.Whole.{Whole, whole_headed}
use Rattle.stations.proofs.Scanning.{ahead_next, sound-start}
use Rattle.stations.proofs.judging.sound_to.Goals as goal
use Rattle.stations.proofs.judging.sound_to.Goals.{Start, After-count_of-turns, In-loop-turn}

table : (c : Start) → let s = c.args.table.now in Whole s (count s)
table c = whole_headed _ c.requires.headed

-- four records are left
inside : (c : In-loop-turn) → 4 * c.loop-turn.turn + 4 ≤ count c.args.table.now
inside c = omega (arith, c.loop-turn-test.true, c.count_of-turns.ensures)

-- places are small numbers
small : (c : In-loop-turn) → 64 * c.loop-turn.turn + 72 < 65536
small c = omega (arith, inside c, (whole_headed _ c.requires.headed).few, limit_small)

few : (c : After-count_of-turns) → c.count_of-turns.result < 4096
few c = omega (arith, c.count_of-turns.ensures, (whole_headed _ c.requires.headed).few, limit_small)

pub count_of-turns-requires : goal.count_of-turns-requires
count_of-turns-requires c = omega (arith, (table (goal.at.count_of-turns-requires c).Start).long)

pub loop-turn-init : goal.loop-turn-init
loop-turn-init c = (record { topped = c.requires; placed = refl; within = omega arith; before = refl }, sound-start _)

pub overflow_mul-at : goal.overflow_mul-at
overflow_mul-at c = omega (arith, small (goal.at.overflow_mul-at c).In-loop-turn)

pub overflow_add-at : goal.overflow_add-at
overflow_add-at c = omega (arith, small (goal.at.overflow_add-at c).In-loop-turn)

pub overflow_add-at-in-loop-turn : goal.overflow_add-at-in-loop-turn
overflow_add-at-in-loop-turn c = omega (arith, small (goal.at.overflow_add-at-in-loop-turn c).In-loop-turn)

pub get-last-requires : goal.get-last-requires
get-last-requires c = omega (arith, inside (goal.at.get-last-requires c).In-loop-turn, (table (goal.at.get-last-requires c).Start).long)

pub loop-turn-preserved : goal.loop-turn-preserved
loop-turn-preserved c = let l = c.loop-turn in
    let a = l.invariant.0 in
    let at = 8 + 64 * l.turn in
    let i = inside (goal.at.loop-turn-preserved c).In-loop-turn in
    let j : at / 16 ≡ 4 * l.turn = omega arith in
    let k : 4 * l.turn + 4 ≡ 4 * (l.turn + 1) = omega arith in (
      ahead_next _ _ 0 (at + 48) (8 + 64 * (l.turn + 1)) _ a.topped (omega arith) (omega (arith, i)) (omega arith) c.get-last.ensures,
      l.invariant.1 ∙ (rw j at (c.four_are_sound.ensures.sound c.if-not-four_are_sound.false)) ∙ ap (scanned_from _) k,
    )

pub overflow_mul-result : goal.overflow_mul-result
overflow_mul-result c = omega (arith, few (goal.at.overflow_mul-result c).After-count_of-turns)

pub overflow_add-result : goal.overflow_add-result
overflow_add-result c = omega (arith, few (goal.at.overflow_add-result c).After-count_of-turns)
