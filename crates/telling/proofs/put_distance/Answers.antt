use mathlib.Core.Path.{sym, ap}
use Rattle.lines.specs.Lines.{numbers_line}
use Rattle.lines.proofs.Texts.{puts_as}
use Rattle.telling.specs.Texts.{distance_text}
use Rattle.telling.proofs.put_distance.Goals as goal

pub returns-in-Ok : goal.returns-in-Ok
unfolding numbers_line
returns-in-Ok c = puts_as (sym (ap distance_text c.in-Ok.is)) c.put_numbers.ensures.puts
