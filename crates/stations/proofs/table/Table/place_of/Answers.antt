use mathlib.Core.Path.{◌≡◌, ap}
use Prim.Native.Nat.{◌+◌, ◌/◌, ◌<◌}
use native.Mathlib.Omega.{arith}
use Rattle.versions.proofs.Versions.{limit_small}
use Rattle.stations.specs.Image.{station_at, count}
use Rattle.stations.specs.declared.Station.{Station}
use Rattle.stations.proofs.Whole.{whole}
use Rattle.stations.proofs.Places.{place-le, below, not_below}
use Rattle.stations.proofs.table.Table.place_of.Goals as goal
use Rattle.stations.proofs.table.Table.place_of.Goals.{After-station_at, In-loop-low}

-- the middle is a position
inside : (c : In-loop-low) → let l = c.loop-low in (l.low + l.high) / 2 < count c.args.self.now.image.now
inside c = let l = c.loop-low in let h = l.invariant.2 in let t = c.loop-low-test.true in omega arith

-- the id there
there : (c : After-station_at) → let l = c.loop-low in c.station_at.result.id ≡ (station_at c.args.self.now.image.now ((l.low + l.high) / 2)).id
there c = ap (λ (r : Station). r.id) c.station_at.ensures

pub count-high-requires : goal.count-high-requires
count-high-requires c = omega (arith, (whole _ _ c.args.self.now.accepted).long)

pub loop-low-init : goal.loop-low-init
loop-low-init c = (omega arith, omega (arith, place-le _ _ c.args.self.now.accepted c.args.id, c.count-high.ensures), omega (arith, c.count-high.ensures))

pub overflow_add-middle : goal.overflow_add-middle
overflow_add-middle c = let l = c.loop-low in omega (arith, l.invariant.2, c.loop-low-test.true, (whole _ _ c.args.self.now.accepted).few, limit_small)

pub station_at-requires : goal.station_at-requires
station_at-requires c = omega (arith, inside (goal.at.station_at-requires c).In-loop-low, (whole _ _ c.args.self.now.accepted).long)

pub loop-low-preserved-then-station_at-id : goal.loop-low-preserved-then-station_at-id
loop-low-preserved-then-station_at-id c = let l = c.loop-low in
    let k = below _ _ c.args.self.now.accepted c.args.id ((l.low + l.high) / 2) (inside (goal.at.loop-low-preserved-then-station_at-id c).In-loop-low) (omega (arith, there (goal.at.loop-low-preserved-then-station_at-id c).After-station_at, c.if-station_at-id.true)) in
    (omega arith, l.invariant.1, l.invariant.2)

pub loop-low-preserved : goal.loop-low-preserved
loop-low-preserved c = let l = c.loop-low in
    let k = not_below _ _ c.args.self.now.accepted c.args.id ((l.low + l.high) / 2) (inside (goal.at.loop-low-preserved c).In-loop-low) (omega (arith, there (goal.at.loop-low-preserved c).After-station_at, c.if-station_at-id.false)) in
    (l.invariant.0, k, omega (arith, inside (goal.at.loop-low-preserved c).In-loop-low))
