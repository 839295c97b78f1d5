use mathlib.Core.Path.{◌≡◌}
use Prim.Native.Nat.{◌+◌, ◌*◌, ◌/◌, ◌≤◌}
use lib.ListN.{length}
use Rattle.ground.specs.Lists.{span, each}
use Rattle.ground.proofs.Writes.{Walking}
use Rattle.lines.specs.Lines.{line_at}
use Rattle.lines.proofs.put_lines.Given as goal

abbrev pub invariant-loop-i : goal.invariant-loop-i
invariant-loop-i l = record {
  length_kept : length l.text.bytes.now ≡ length l.initial.text.bytes.now;
  same_reference : l.text.bytes.ghost_name ≡ l.initial.text.bytes.ghost_name;
  within : l.text.at ≤ l.initial.text.at + 33 * l.i;
  walking : Walking (line_at l.rows) (length l.rows / 3) l.i l.text.at l.text.bytes.now (each (line_at l.rows) (span 0 (length l.rows / 3))) l.initial.text.at l.initial.text.bytes.now;
}
