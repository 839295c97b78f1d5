use mathlib.Core.Path.{◌≡◌}
use Rattle.std.specs.Prelude.{Err}
use borrow.Author.Rules.{rules}
use Rattle.changes.proofs.Ways.{table_out, decided, refused_by, add-asked, add-entering}
use Rattle.changes.proofs.add.Goals as goal

pub returns-in_default : goal.returns-in_default
returns-in_default c = table_out _ _ _ (rw c.unwrap_err.ensures at c.of-judged.ensures)

pub returns-in_err-r : goal.returns-in_err-r
returns-in_err-r c = let e : c.from_residual.result ≡ Err c.in_err-r.field-0.0 = search rules in
    rw (e, ← c.in-Ok.ensures) (refused_by _ _ _ c.in-Ok.table.accepted (add-asked _ _ _ c.in_err-r.ensures))

pub returns : goal.returns
returns c =
    let k = c.in_ok-r.ensures in
    rw (← c.in-Ok.ensures) (decided _ _ c.in-Ok.table.accepted (rw (add-entering _ c.args.newcomer k.0) (rw k.1 at c.enter.ensures)))
