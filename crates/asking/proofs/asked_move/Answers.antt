use native.Mathlib.Omega.{arith}
use Rattle.std.specs.Prelude.{◌≡◌, Err}
use borrow.Author.Rules.{rules}
use Rattle.asking.specs.Asking.{move_input}
use Rattle.asking.proofs.Inputs.{cut, whole}
use Rattle.asking.proofs.asked_move.Goals as goal

pub returns-in_err-table : goal.returns-in_err-table
unfolding move_input
returns-in_err-table c =
    let e : c.from_residual.result ≡ Err c.in_err-table.field-0.0 = search rules in
    cut 7 _ _ _ _ c.in_err-table.ensures.0 (rw (c.in_err-table.ensures.1) at e)

pub returns : goal.returns
unfolding move_input
returns c = whole 7 _ (λ h. omega (arith, c.in_ok-table.ensures.0)) (rw (c.in_ok-table.ensures.1, c.get-2.ensures, c.from-channel.ensures, c.get.ensures) at c.move_to.ensures)
