use Rattle.streams.proofs.Pieces.{piece}
use Rattle.streams.proofs.room.Goals as goal

pub returns-clause-roomed : goal.returns-clause-roomed
returns-clause-roomed c = record { kept = λ ok text left before t. piece t c.hand-handed.ensures ok; failed = c.hand-handed.ensures.failed }
