use mathlib.Core.Path.{◌≡◌}
use Prim.Native.Nat.{◌≤◌}
use lib.ListN.{drop}
use Rattle.stations.specs.Image.{stations, count, scan, scanned}
use Rattle.stations.proofs.Whole.{Whole}
use Rattle.stations.proofs.judging.records.Given as goal

abbrev pub invariant-loop-i : goal.invariant-loop-i
invariant-loop-i l = record {
  whole : Whole l.table (count l.table);
  within : l.i ≤ count l.table;
  sound : scanned l.table ≡ scan l.top l.i l.last (drop l.i (stations l.table));
}
