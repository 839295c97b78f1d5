use Rattle.seal.specs.Seal.{Came}
use Rattle.streams.proofs.read.Goals as goal

pub returns-clause-came : goal.returns-clause-came
unfolding Came
returns-clause-came c = tt
