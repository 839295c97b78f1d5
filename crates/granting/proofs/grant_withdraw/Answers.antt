use native.Mathlib.Omega.{arith}
use Rattle.stations.proofs.Whole.{whole}
use Rattle.granting.proofs.Lists.{replaces, without_is}
use Rattle.granting.proofs.grant_withdraw.Goals as goal

pub overflow_add-p : goal.overflow_add-p
overflow_add-p c = omega (arith, (whole _ _ c.args.table.now.accepted).long)

pub splice-requires : goal.splice-requires
splice-requires c = replaces _ c.args.table.now.accepted 0 c.requires (omega arith)

pub returns : goal.returns
returns c = rw (without_is _ c.args.table.now.accepted c.requires) c.splice.ensures
