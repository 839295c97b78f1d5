use mathlib.Core.Path.{◌≡◌, sym, ◌∙◌}
use native.Mathlib.Omega.{arith}
use Rattle.wire.specs.Be.{be}
use borrow.Author.Tests.{eq-eqb, ne_eqb}
use Rattle.std.proofs.lemmas.Bool.{eqb-true}
use Rattle.std.specs.Prelude.{Err}
use Rattle.refusals.specs.declared.Fault.TheVariants.{UnderEightBytes}
use Rattle.asking.specs.Asking.{change_input}
use Rattle.asking.proofs.Inputs.{early, taken, passed, no_letter}
use Rattle.asking.proofs.asked_change.Goals as goal

pub returns-then-is_empty : goal.returns-then-is_empty
returns-then-is_empty c = no_letter (c.args.input.now) _ _ (eqb-true _ 0 (sym c.is_empty.ensures ∙ c.if-is_empty.true)) (λ _. Err UnderEightBytes)

pub returns-in-97 : goal.returns-in-97
unfolding change_input
returns-in-97 c = taken _ _ (eq-eqb _ _ (sym c.get-letter.ensures ∙ c.in-97.is)) c.asked_add.ensures

pub returns-in-119 : goal.returns-in-119
unfolding change_input
returns-in-119 c =
    let is : be 1 c.args.input.now 0 ≡ 119 = sym c.get-letter.ensures ∙ c.in-119.is in
    passed _ _ (ne_eqb _ _ (omega (arith, is))) (taken _ _ (eq-eqb _ _ is) c.asked_withdraw.ensures)

pub returns-in-109 : goal.returns-in-109
unfolding change_input
returns-in-109 c =
    let is : be 1 c.args.input.now 0 ≡ 109 = sym c.get-letter.ensures ∙ c.in-109.is in
    passed _ _ (ne_eqb _ _ (omega (arith, is))) (passed _ _ (ne_eqb _ _ (omega (arith, is))) (taken _ _ (eq-eqb _ _ is) c.asked_move.ensures))

pub returns-in_default : goal.returns-in_default
unfolding change_input
returns-in_default c =
    passed _ _ (ne_eqb _ _ (λ h. omega arith))
    (passed _ _ (ne_eqb _ _ (λ h. omega arith))
    (passed _ _ (ne_eqb _ _ (λ h. omega arith)) (early _ _ (λ _. Err UnderEightBytes))))
