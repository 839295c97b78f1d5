use Rattle.std.proofs.Common.{rules, ◌≡◌, Err}
use Rattle.desk.proofs.Answers.{denied}
use Rattle.checks.specs.Check.{asked, rows_for, checked_for}
use Rattle.checks.proofs.check.Goals as goal

pub returns-in_err-study : goal.returns-in_err-study
unfolding checked_for
returns-in_err-study c =
    let e : c.from_residual.result ≡ Err c.in_err-study.field-0.0 = search rules in
    let w = rw c.from.ensures at c.in_err-study.ensures in
    rw (e, w.denied (rows_for (asked c.args.proposal))) (denied _ _)

pub returns : goal.returns
unfolding checked_for
returns c =
    let w = rw c.from.ensures at c.in_ok-study.ensures in
    rw (w.granted (rows_for (asked c.args.proposal))) (rw (w.image, w.terms, w.place) at c.list.ensures)
