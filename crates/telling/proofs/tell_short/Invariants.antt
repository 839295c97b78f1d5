use mathlib.Core.Path.{◌≡◌}
use lib.ListN.{length, take}
use Rattle.std.specs.Slice.Iter.{chunks_rest, chunks_size}
use Rattle.streams.specs.Pieces.{Telling}
use Rattle.telling.specs.Texts.{lines_text, short_text}
use Rattle.telling.proofs.Waiting.{waits}
use Rattle.telling.proofs.tell_short.Given as goal

abbrev pub invariant-loop-batch : goal.invariant-loop-batch
invariant-loop-batch l = record {
  size : chunks_size l.batch-iterator ≡ 1500;
  length_kept : length l.lines.bytes.now ≡ length l.initial.lines.bytes.now;
  telling : Telling (short_text (take l.n l.rows)) l.initial.mark l.mark (waits l.lines) (lines_text (chunks_rest l.batch-iterator));
}
