use Rattle.lines.specs.Lines.{short_line}
use Rattle.lines.proofs.Texts.{puts_both}
use Rattle.lines.proofs.put_heading.Goals as goal

pub returns-clause-puts : goal.returns-clause-puts
unfolding short_line
returns-clause-puts c = puts_both c.put_word.ensures c.put_number.ensures.puts
