use Rattle.nearby.proofs.Channels.{all_held}
use Rattle.nearby.proofs.nearness.free_of.Goals as goal

pub returns : goal.returns
returns c = all_held c.requires c.hold.ensures c.hold-2.ensures c.hold-3.ensures c.hold-4.ensures c.hold-5.ensures c.hold-6.ensures
