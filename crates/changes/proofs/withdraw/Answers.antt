use mathlib.Core.Path.{sym, ◌∙◌}
use Rattle.changes.proofs.There.{within, own_id}
use Rattle.changes.proofs.Ways.{table_out, refused_by, granted_by, withdraw-absent, withdraw-present}
use Rattle.changes.proofs.withdraw.Goals as goal

pub returns-in_default : goal.returns-in_default
returns-in_default c = table_out _ _ _ (rw c.unwrap_err.ensures at c.of-judged.ensures)

pub returns-in_default-find : goal.returns-in_default-find
returns-in_default-find c = rw (← c.in-Ok.ensures) (refused_by _ _ _ c.in-Ok.table.accepted (withdraw-absent _ _ _ (sym c.find.ensures ∙ c.in_default-find.is)))

pub grant_withdraw-requires : goal.grant_withdraw-requires
grant_withdraw-requires c = within _ c.in-Ok.table.accepted _ _ (sym c.find.ensures ∙ c.in-Ok-find.is)

pub returns : goal.returns
returns c =
    let e = c.in-Ok.table.accepted in
    let there = sym c.find.ensures ∙ c.in-Ok-find.is in
    rw (← c.in-Ok.ensures) (granted_by _ _ e (withdraw-present _ _ _ there) (rw (own_id _ e _ _ there) at c.grant_withdraw.ensures))
