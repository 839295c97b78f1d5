use mathlib.Core.Path.{sym, ap, ◌∙◌}
use mathlib.Core.List.{◌++◌}
use native.Mathlib.Omega.{arith}
use lib.Seq.{take_all}
use Rattle.ground.specs.Lists.{each}
use Rattle.lines.specs.Lines.{spaced, ended, numbers_line}
use Rattle.lines.proofs.Texts.{none, no_numbers, next_number, numbers_end, puts_both, puts_kept, puts_as}
use Rattle.lines.proofs.put_numbers.Goals as goal

pub returns-in_default-clause-puts : goal.returns-in_default-clause-puts
returns-in_default-clause-puts c = no_numbers _ c.in_default.ensures.cases

pub loop-number-init : goal.loop-number-init
unfolding each
loop-number-init c = record { puts = none; within = omega arith }

pub put_number-requires : goal.put_number-requires
put_number-requires c =
    let long = puts_kept c.loop-number.invariant.puts in
    let count = c.in-Some.ensures.cases.1 in
    omega (arith, c.loop-number.invariant.within)

pub loop-number-preserved : goal.loop-number-preserved
loop-number-preserved c =
    record {
      puts = puts_as (next_number _ _ 0 c.loop-number-test.true) (puts_both c.loop-number.invariant.puts c.put_number.ensures.puts);
      within = omega (arith, c.loop-number.invariant.within, c.put_number.ensures.upper_bound);
    }

pub put_number-requires-2 : goal.put_number-requires-2
put_number-requires-2 c =
    let long = puts_kept c.loop-number.invariant.puts in
    let count = c.in-Some.ensures.cases.1 in
    omega (arith, c.loop-number.invariant.within)

pub returns-clause-puts : goal.returns-clause-puts
returns-clause-puts c =
    let all = take_all c.loop-number.number-index c.in-Some.before.now c.loop-number-test.false in
    puts_as
    (ap (λ l. each spaced l ++ ended c.in-Some.last.now) all ∙ sym (numbers_end c.in-Some.before.now c.in-Some.last.now) ∙ sym (ap numbers_line c.in-Some.ensures.cases.0))
    (puts_both c.loop-number.invariant.puts c.put_number-2.ensures.puts)

pub returns-clause-upper_bound : goal.returns-clause-upper_bound
returns-clause-upper_bound c =
    let count = c.in-Some.ensures.cases.1 in
    omega (arith, c.loop-number.invariant.within, c.put_number-2.ensures.upper_bound)
