use Rattle.std.specs.Prelude.{◌≡◌, Err, length}
use borrow.Author.Rules.{rules}
use mathlib.Core.Path.{ap}
use native.Mathlib.Omega.{arith}
use borrow.Author.Tests.{lt-ltb, le-ltb}
use Rattle.ground.specs.Guard.{given}
use Rattle.reasons.specs.Reason.{outcome_of}
use Rattle.asking.specs.Asking.{past, reason_input}
use Rattle.asking.proofs.asked_reason.Goals as goal

pub returns-in_err-table : goal.returns-in_err-table
unfolding reason_input past given
returns-in_err-table c =
    let e : c.from_residual.result ≡ Err c.in_err-table.field-0.0 = search rules in
    rw (lt-ltb _ _ c.in_err-table.ensures.0) (rw (c.in_err-table.ensures.1) at (ap outcome_of e))

pub returns : goal.returns
unfolding reason_input past given
returns c =
    rw (le-ltb (length c.args.input.now) 17 c.in_ok-table.ensures.0)
    (rw (c.in_ok-table.ensures.1, c.proposal.ensures, c.terms_at-terms.ensures) at c.answer.ensures)
