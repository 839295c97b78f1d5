use native.Mathlib.Omega.{arith}
use Rattle.marking.proofs.Marks.{marked_start, marked_turn}
use Rattle.survey.specs.Ways.{looked, chosen_for}
use Rattle.survey.proofs.Records.{few}
use Rattle.survey.proofs.Shorts.{walk-limited}
use Rattle.survey.proofs.Frames.{marked_on}
use Rattle.survey.proofs.walk.Walk.survey.Goals as goal

pub around-frame-requires : goal.around-frame-requires
around-frame-requires c = let w = c.args.self.now in
    (record { km = chosen_for w.study.terms; limited = walk-limited w.study.terms.standard w.held }, w.study.placed)

pub loop-i-init : goal.loop-i-init
loop-i-init c = (omega arith, marked_start _ c.requires.low c.requires.high c.wipe.ensures)

pub overflow_add-from : goal.overflow_add-from
overflow_add-from c = omega (arith, few _ c.args.self.now.study.table.accepted, c.in-Some.ensures.1)

-- the marks up to the next record that is close, and with it
pub loop-i-preserved : goal.loop-i-preserved
loop-i-preserved c = let w = c.args.self.now in let near = c.in-Some.ensures in (
  omega (arith, near.1),
  marked_turn (marked_on _ w.study.table.accepted (c.around-frame.ensures _ (walk-limited w.study.terms.standard w.held)) near.0 (looked w.study.terms) c.loop-i.invariant.1) c.look_at.ensures,
)

pub returns : goal.returns
returns c = let w = c.args.self.now in
    marked_on _ w.study.table.accepted (c.around-frame.ensures _ (walk-limited w.study.terms.standard w.held)) c.in_default.ensures (looked w.study.terms) c.loop-i.invariant.1
