use Rattle.spacing.proofs.Reaching.{falling, reaches}
use Rattle.spacing.proofs.Untruncated.{untruncated}
use Rattle.spacing.proofs.Limits.reach_of.Goals as goal

pub returns : goal.returns
returns c = λ km l.
    let w = untruncated l.at in
    reaches l.table w c.requires.0 c.requires.1
    (rw c.square_between.ensures at (c.reach_at.ensures (falling l.table w c.requires.0 c.requires.1)))
