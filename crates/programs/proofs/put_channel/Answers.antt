use Rattle.std.proofs.Common.{rules}
use mathlib.Core.Path.{◌∙◌}
use Rattle.lines.proofs.Texts.{puts_as}
use Rattle.telling.proofs.Rooms.{within}
use Rattle.programs.proofs.Printing.{channel-printed, channel_denied}
use Rattle.programs.proofs.put_channel.Goals as goal

pub put_answer-requires : goal.put_answer-requires
put_answer-requires c = (search rules, (search rules, within _ (search rules) c.asked_arrange-answer.ensures))

pub returns-clause-puts : goal.returns-clause-puts
returns-clause-puts c = puts_as (channel-printed c.args.channel c.args.terms c.args.input.now (search rules) c.asked_arrange-answer.ensures) c.put_answer.ensures.puts

pub returns-clause-refused : goal.returns-clause-refused
returns-clause-refused c = c.put_answer.ensures.refused ∙ channel_denied c.args.channel c.args.terms c.args.input.now (search rules) c.asked_arrange-answer.ensures
