use mathlib.Core.Path.{sym, ◌∙◌}
use Rattle.std.proofs.Common.{rules, ◌≡◌, Err}
use Rattle.checks.specs.Check.{asked}
use Rattle.reasons.specs.Reason.{reason_for, reasoned_for}
use Rattle.reasons.proofs.answer.Goals as goal

pub returns-in_err-study : goal.returns-in_err-study
unfolding reasoned_for
returns-in_err-study c =
    let e : c.from_residual.result ≡ Err c.in_err-study.field-0.0 = search rules in
    let w = rw c.from.ensures at c.in_err-study.ensures in
    rw e (sym (w.denied (reason_for (asked c.args.proposal))))

pub returns : goal.returns
unfolding reasoned_for
returns c =
    let w = rw c.from.ensures at c.in_ok-study.ensures in
    (rw (w.image, w.terms, w.place) at c.found.ensures) ∙ sym (w.granted (reason_for (asked c.args.proposal)))
