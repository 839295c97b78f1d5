use Rattle.granting.proofs.Lists.{inserts, insert_is}
use Rattle.granting.proofs.grant_add.Goals as goal

pub splice-requires : goal.splice-requires
splice-requires c = inserts _ c.args.table.now.accepted c.requires

pub returns : goal.returns
returns c = rw (insert_is _ c.args.table.now.accepted c.requires) c.splice.ensures
