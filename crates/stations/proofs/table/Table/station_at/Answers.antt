use native.Mathlib.Omega.{arith}
use Rattle.stations.proofs.Whole.{whole}
use Rattle.stations.proofs.table.Table.station_at.Goals as goal

pub station_at-requires : goal.station_at-requires
station_at-requires c = omega (arith, (whole _ _ c.args.self.now.accepted).long, c.requires)
