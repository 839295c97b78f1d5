use mathlib.Core.Path.{◌≡◌}
use Prim.Native.Nat.{◌+◌, ◌-◌, ◌*◌, ◌≤◌}
use Rattle.ground.proofs.Writes.{Walking}
use Rattle.part73.specs.Channels.{channel_count}
use Rattle.listing.specs.Listing.{id_at, channel_rows, all_rows}
use Rattle.listing.proofs.Findings.list.Given as goal

abbrev pub invariant-loop-c : goal.invariant-loop-c
invariant-loop-c l = let s = l.self in record {
  same_reference : l.rows.buffer.ghost_name ≡ l.initial.rows.buffer.ghost_name;
  within : l.rows.at ≤ 3 * channel_count * (l.c - s.channels.first);
  walking : Walking (channel_rows (id_at s.table.image.now) s.marks.now s.channels.first s.moves.now) (s.channels.last + 1) l.c l.rows.at l.rows.buffer.now (all_rows (id_at s.table.image.now) s.marks.now s.channels s.moves.now) 0 l.initial.rows.buffer.now;
}
