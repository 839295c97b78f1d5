use mathlib.Core.Path.{◌≡◌}
use Prim.Native.Nat.{◌+◌}
use Rattle.part73.specs.Channels.{highest}
use Rattle.listing.specs.Listing.{move_at, move_rows}
use Rattle.ground.proofs.Writes.{Walking}
use Rattle.listing.proofs.list_moves.Given as goal

abbrev pub invariant-loop-m : goal.invariant-loop-m
invariant-loop-m l = record {
  same_reference : l.rows.buffer.ghost_name ≡ l.initial.rows.buffer.ghost_name;
  walking : Walking (move_at l.row l.id l.c) (highest + 1) l.m l.rows.at l.rows.buffer.now (move_rows l.row l.id l.c) l.initial.rows.at l.initial.rows.buffer.now;
}
