use Rattle.std.proofs.Common.{rules}
use mathlib.Core.Path.{◌≡◌, refl, sym, ap, ◌∙◌}
use native.Mathlib.Omega.{arith}
use lib.ListN.{length, take}
use Rattle.std.specs.Slice.Iter.{chunks_rest}
use Rattle.lines.proofs.Texts.{puts_kept, puts_as}
use Rattle.streams.proofs.Pieces.{left_as, end}
use Rattle.telling.specs.Texts.{lines_text}
use Rattle.telling.proofs.Lines.{lines_at, lines_chunk, none_left}
use Rattle.telling.proofs.Waiting.{text_put_in, after_room, short_text-start}
use Rattle.telling.proofs.tell_short.Goals as goal

pub loop-batch-init : goal.loop-batch-init
loop-batch-init c =
    let all : chunks_rest c.into_iter-batch-iterator.result ≡ take c.args.n c.args.rows.now = cc in
    record {
      size = cc;
      length_kept = refl;
      telling = left_as (ap lines_text (sym all)) (text_put_in c.put_heading.ensures.puts _ (short_text-start c.args.rows.now c.args.n _ (search rules)));
    }

pub make_room-requires : goal.make_room-requires
make_room-requires c = omega (arith, puts_kept c.put_heading.ensures.puts, c.loop-batch.invariant.length_kept)

pub loop-batch-preserved : goal.loop-batch-preserved
loop-batch-preserved c =
    let l = c.loop-batch in
    let s = c.in-Some.ensures.steps in
    let r = c.in_ok-make_room.ensures in
    let p = c.put_lines.ensures.puts in
    record {
      size = s.0 ∙ l.invariant.size;
      length_kept = puts_kept p ∙ ap length r.same_text ∙ l.invariant.length_kept;
      telling = text_put_in (puts_as (sym (lines_at _)) p) _ (left_as (lines_chunk _ _ _ s.1.0 (rw l.invariant.size at s.1.1)) (after_room l.lines c.make_room.new.text r.same_text r.roomed refl l.invariant.telling));
    }

pub returns : goal.returns
returns c = end (left_as (none_left _ c.in-None.ensures.steps.1.0) c.loop-batch.invariant.telling) c.hand_over.ensures
