use mathlib.Core.Path.{sym, ◌∙◌}
use native.Mathlib.Omega.{arith}
use borrow.Author.Tests.{leb-false}
use Rattle.versions.specs.Version.{limit}
use Rattle.desk.proofs.Answers.{denied}
use Rattle.changes.proofs.There.{is_absent, is_none, count_small, full_is, one_within, within}
use Rattle.changes.proofs.Ways.{zero_id, present-id, short_one, full_table, entered_at}
use Rattle.changes.proofs.enter.Goals as goal

pub returns-then-r-eq0 : goal.returns-then-r-eq0
returns-then-r-eq0 c = rw (zero_id _ c.args.r c.if-r-eq0.true) (denied _ _)

pub overflow_cast-result : goal.overflow_cast-result
overflow_cast-result c = omega (arith, within _ c.args.table.now.accepted _ _ (sym c.find.ensures ∙ c.in-Ok.is), count_small _ c.args.table.now.accepted)

pub returns-in-Ok : goal.returns-in-Ok
returns-in-Ok c = rw (present-id _ c.args.r c.if-r-eq0.false _ (sym c.find.ensures ∙ c.in-Ok.is)) (denied _ _)

pub overflow_cast-result-in-Some : goal.overflow_cast-result-in-Some
overflow_cast-result-in-Some c = omega (arith, one_within _ c.args.table.now.accepted _ _ (sym c.first_conflict.ensures ∙ c.in-Some.is), count_small _ c.args.table.now.accepted)

pub returns-in-Some : goal.returns-in-Some
returns-in-Some c = rw (short_one _ _ c.if-r-eq0.false (is_absent _ _ _ (sym c.find.ensures ∙ c.in-Err.is)).0 _ (sym c.first_conflict.ensures ∙ c.in-Some.is)) (denied _ _)

pub returns-then-is_full : goal.returns-then-is_full
returns-then-is_full c =
    let full = full_is _ c.args.table.now.accepted _ _ c.count.ensures c.is_full.ensures ∙ c.if-is_full.true in
    rw (full_table _ _ c.if-r-eq0.false (is_absent _ _ _ (sym c.find.ensures ∙ c.in-Err.is)).0 (is_none _ _ (sym c.first_conflict.ensures ∙ c.in_default.is)) full) (denied _ _)

pub grant_add-requires : goal.grant_add-requires
grant_add-requires c =
    let new = is_absent _ _ _ (sym c.find.ensures ∙ c.in-Err.is) in
    record { place = sym new.1; new = new.0; room = omega (arith, c.count.ensures, leb-false limit c.count.result (sym c.is_full.ensures ∙ c.if-is_full.false)) }

pub returns : goal.returns
returns c =
    let room = full_is _ c.args.table.now.accepted _ _ c.count.ensures c.is_full.ensures ∙ c.if-is_full.false in
    rw (entered_at _ _ c.if-r-eq0.false (is_absent _ _ _ (sym c.find.ensures ∙ c.in-Err.is)).0 (is_none _ _ (sym c.first_conflict.ensures ∙ c.in_default.is)) room) c.grant_add.ensures
