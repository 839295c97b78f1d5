use mathlib.Core.Path.{◌≡◌, ◌∙◌}
use native.Mathlib.Omega.{arith}
use Rattle.lines.specs.Lines.{number_then}
use Rattle.lines.proofs.Decimals.{ten_digits, text}
use Rattle.lines.proofs.Texts.{puts_both, puts_kept, puts_as}
use Rattle.lines.proofs.put_number.Goals as goal

pub put_word-requires : goal.put_word-requires
put_word-requires c =
    let same : c.from.result ≡ c.args.n = cc in
    let few = ten_digits _ _ c.ranges.n.fits (rw same at c.decimal-count.ensures.len) in
    omega arith

pub put_word-requires-2 : goal.put_word-requires-2
put_word-requires-2 c =
    let same : c.from.result ≡ c.args.n = cc in
    let few = ten_digits _ _ c.ranges.n.fits (rw same at c.decimal-count.ensures.len) in
    let long = puts_kept c.put_word.ensures in
    omega (arith, c.put_word.ensures.wrote.next)

pub returns-clause-puts : goal.returns-clause-puts
unfolding number_then
returns-clause-puts c =
    let same : c.from.result ≡ c.args.n = cc in
    let d = c.decimal-count.ensures in
    puts_both (puts_as (rw same at d.digits ∙ text _ _ c.ranges.n.fits (rw same at d.len)) c.put_word.ensures) c.put_word-2.ensures

pub returns-clause-upper_bound : goal.returns-clause-upper_bound
returns-clause-upper_bound c =
    let same : c.from.result ≡ c.args.n = cc in
    let few = ten_digits _ _ c.ranges.n.fits (rw same at c.decimal-count.ensures.len) in
    omega (arith, c.put_word.ensures.wrote.next, c.put_word-2.ensures.wrote.next)
