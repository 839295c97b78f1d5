use mathlib.Core.Path.{◌≡◌}
use Prim.Native.Nat.{◌+◌, ◌*◌, ◌/◌}
use Rattle.stations.specs.Image.{scanned}
use Rattle.stations.specs.Scanning.{scanned_from, Ahead}
use Rattle.stations.proofs.judging.sound_to.Given as goal

abbrev pub invariant-loop-turn : goal.invariant-loop-turn
invariant-loop-turn l = Ahead l.table l.top 0 (8 + 64 * l.turn) l.last × (scanned l.table ≡ scanned_from l.table (4 * l.turn))
