use Rattle.nearby.proofs.Channels.{held}
use Rattle.nearby.proofs.nearness.hold.Goals as goal

pub returns : goal.returns
returns c = held c.requires.0 c.args.d _ c.requires.1 c.told-free
