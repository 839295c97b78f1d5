use Prim.Native.Nat.{◌-◌, ◌≤◌}
use Rattle.ground.specs.Lists.{first}
use Rattle.stations.specs.Image.{stations, count}
use Rattle.stations.specs.Lists.{from_id}
use Rattle.stations.proofs.table.Table.place_of.Given as goal

abbrev pub invariant-loop-low : goal.invariant-loop-low
invariant-loop-low l = let p = first (from_id l.id) (stations l.self.image.now) in (l.low ≤ p) × (p ≤ l.high) × (l.high ≤ count l.self.image.now)

abbrev pub decreases-loop-low : goal.decreases-loop-low
decreases-loop-low l = l.high - l.low
