use mathlib.Core.Path.{sym, ap, ◌∙◌}
use Rattle.lines.proofs.Texts.{puts_as}
use Rattle.telling.specs.Texts.{lines_text}
use Rattle.telling.specs.Told.{told}
use Rattle.telling.proofs.Lines.{lines_at}
use Rattle.telling.proofs.put_answer.Goals as goal

pub returns-in-Ok-clause-puts : goal.returns-in-Ok-clause-puts
returns-in-Ok-clause-puts c = puts_as (sym (ap (told lines_text _) c.in-Ok.is ∙ lines_at _)) c.put_lines.ensures.puts
