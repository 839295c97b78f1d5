use Rattle.lines.specs.Lines.{clear_line}
use Rattle.lines.proofs.put_clear.Goals as goal

pub returns-clause-puts : goal.returns-clause-puts
unfolding clear_line
returns-clause-puts c = c.put_word.ensures
