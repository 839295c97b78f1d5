use Prim.Native.Nat.{◌+◌, ◌-◌}
use native.Mathlib.Omega.{arith}
use borrow.Author.Tests.{leb-false}
use Rattle.part73.specs.Columns.{gap}
use Rattle.marking.proofs.Bands.{untouched}
use Rattle.marking.proofs.Channels.touches.Goals as goal

-- below them, by less than 54 and by more
pub returns-then-self-c : goal.returns-then-self-c
unfolding gap
returns-then-self-c c = let l = c.if-c-self.true in
    untouched _ _ _ (λ q m a b. let f = leb-false (c.args.c + 53) c.args.self.last q in (omega arith, (λ e. omega arith, λ e. omega arith)))

pub returns-else-self-c : goal.returns-else-self-c
unfolding gap
returns-else-self-c c = let l = c.if-self-c.false in
    untouched _ _ _ (λ q m a b. (omega arith, (λ e. omega arith, λ e. omega arith)))

-- above them, by less than 54 and by more
pub returns-then-c-self-2 : goal.returns-then-c-self-2
unfolding gap
returns-then-c-self-2 c = let l = c.if-self-c-2.true in
    untouched _ _ _ (λ q m a b. let f = leb-false c.args.self.first (c.args.c - 53) q in (omega arith, (λ e. omega arith, λ e. omega arith)))

pub returns-else-c-self-2 : goal.returns-else-c-self-2
unfolding gap
returns-else-c-self-2 c = let l = c.if-c-self-2.false in
    untouched _ _ _ (λ q m a b. (omega arith, (λ e. omega arith, λ e. omega arith)))
