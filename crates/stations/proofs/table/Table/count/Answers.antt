use native.Mathlib.Omega.{arith}
use Rattle.stations.proofs.Whole.{whole}
use Rattle.stations.proofs.table.Table.count.Goals as goal

pub count_of-requires : goal.count_of-requires
count_of-requires c = omega (arith, (whole _ _ c.args.self.now.accepted).long)
