use Rattle.std.proofs.Common.{rules, ◌≡◌, Err}
use Rattle.refusals.specs.Faults.{Answer}
use Rattle.desk.proofs.Answers.{denied}
use Rattle.studies.specs.Studies.{asked}
use Rattle.arrangements.specs.Arrange.{rows_for, arranged_for}
use Rattle.arrangements.proofs.arrange.Goals as goal

pub returns-in_err-study : goal.returns-in_err-study
unfolding arranged_for
returns-in_err-study c =
    let w = c.args.wanted in
    let e : ◌≡◌ {A = Answer} c.from_residual.result (Err c.in_err-study.field-0.0) = search rules in
    rw (e, c.in_err-study.ensures.denied (rows_for (asked w) w.first w.last)) (denied _ _)

pub list_asked-requires : goal.list_asked-requires
list_asked-requires c = rw c.channels.ensures c.in_ok-study.ensures.asked

pub returns : goal.returns
unfolding arranged_for
returns c =
    let w = c.args.wanted in
    let s = c.in_ok-study.ensures in
    rw (s.granted (rows_for (asked w) w.first w.last)) (rw (s.image, s.terms, s.place, c.channels.ensures) at c.list_asked.ensures)
