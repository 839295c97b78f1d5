use native.Mathlib.Omega.{arith}
use Rattle.lines.specs.Lines.{refused_line}
use Rattle.lines.proofs.Texts.{puts_both, puts_kept}
use Rattle.lines.proofs.put_refusal.Goals as goal

pub put_number-requires-2 : goal.put_number-requires-2
put_number-requires-2 c =
    let first = puts_kept c.put_word.ensures in
    let second = puts_kept c.put_number.ensures.puts in
    omega (arith, c.put_word.ensures.wrote.next)

pub returns-clause-puts : goal.returns-clause-puts
unfolding refused_line
returns-clause-puts c = puts_both c.put_word.ensures (puts_both c.put_number.ensures.puts c.put_number-2.ensures.puts)
