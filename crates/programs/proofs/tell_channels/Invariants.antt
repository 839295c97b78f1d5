use Rattle.programs.proofs.Arranging.{Turns}
use Rattle.programs.proofs.tell_channels.Given as goal

abbrev pub invariant-loop-channel : goal.invariant-loop-channel
invariant-loop-channel l = Turns l.initial.lines.bytes.now l.input l.terms l.initial.mark l.lines.bytes.now l.mark l.lines.at l.channel
