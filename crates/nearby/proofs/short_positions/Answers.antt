use mathlib.Core.Path.{◌≡◌}
use mathlib.Core.Bool.{true}
use native.Mathlib.Omega.{arith}
use Prim.Native.Nat.{◌<◌}
use lib.ListN.{length}
use Rattle.versions.specs.Version.{limit}
use Rattle.spacing.specs.Pair.{sited}
use Rattle.stations.specs.Image.{count}
use Rattle.stations.proofs.Whole.{whole}
use Rattle.survey.specs.Ways.{looked, chosen_for}
use Rattle.survey.specs.Walking.{blocks}
use Rattle.survey.proofs.Records.{few}
use Rattle.nearby.specs.Positions.{Clear, short_positions}
use Rattle.nearby.proofs.Noting.{note-start, note_skip, note_turn, note_end}
use Rattle.nearby.proofs.short_positions.Goals as goal
use Rattle.nearby.proofs.short_positions.Goals.{In-Some, In_default}

-- the next one, of the study that is asked of
found : (c : In-Some) → let s = c.args.study.now in
    Clear (chosen_for s.terms) (looked s.terms) s.table.image.now (sited s.place c.args.channel) c.loop-i.from c.in-Some.i
    × (c.in-Some.i < count s.table.image.now)
    × (blocks (chosen_for s.terms) (looked s.terms) s.table.image.now (sited s.place c.args.channel) c.in-Some.i ≡ true)
found c = let e = c.of-search.ensures in rw (e.table, e.terms, e.place, e.channel) at c.in-Some.ensures

none : (c : In_default) → let s = c.args.study.now in
    Clear (chosen_for s.terms) (looked s.terms) s.table.image.now (sited s.place c.args.channel) c.loop-i.from (count s.table.image.now)
none c = let e = c.of-search.ensures in rw (e.table, e.terms, e.place, e.channel) at c.in_default.ensures

pub loop-i-init : goal.loop-i-init
loop-i-init c = rw c.new-positions.ensures (note-start _ _)

pub overflow_cast-i : goal.overflow_cast-i
overflow_cast-i c = omega (arith, few _ c.args.study.now.table.accepted, (found (goal.at.overflow_cast-i c).In-Some).1)

pub push-requires : goal.push-requires
unfolding limit
push-requires c = let f = found (goal.at.push-requires c).In-Some in
    let h : length c.loop-i.positions.items < 4000 = omega (arith, (whole _ _ c.args.study.now.table.accepted).few, c.loop-i.invariant.few, f.0.on, f.1) in
    (omega arith, h)

pub overflow_add-from : goal.overflow_add-from
overflow_add-from c = omega (arith, few _ c.args.study.now.table.accepted, (found (goal.at.overflow_add-from c).In-Some).1)

pub loop-i-preserved : goal.loop-i-preserved
loop-i-preserved c = let f = found (goal.at.loop-i-preserved c).In-Some in let w = f.0 in
    rw c.push.ensures.items (note_turn f.1 f.2 (note_skip c.in-Some.i w.on w.upto w.each_one c.loop-i.invariant))

pub returns : goal.returns
unfolding short_positions
returns c = let w = none (goal.at.returns c).In_default in
    note_end (note_skip _ w.on w.upto w.each_one c.loop-i.invariant)
