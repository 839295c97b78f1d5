use mathlib.Core.Path.{sym, ap, ◌∙◌}
use Prim.Native.Nat.{ℕ}
use native.Mathlib.Omega.{arith}
use lib.Dec.{ltb}
use Rattle.squares.specs.Squares.{limit_of}
use Rattle.spacing.proofs.Rule.{no_column, at_limit}
use Rattle.spacing.proofs.Untruncated.{untruncated}
use Rattle.spacing.proofs.Limits.is_short.Goals as goal

pub returns-in-None : goal.returns-in-None
returns-in-None c = λ km l. sym (no_column l.table _ _ c.requires.0 c.requires.1 _ _ c.in-None.ensures)

pub returns-in-Some : goal.returns-in-Some
returns-in-Some c = let mine = c.requires.0 in
    let their = c.requires.1 in
    let told = c.in-Some.ensures in
    let square = simp (c.site.ensures.0, c.site.ensures.1, c.site-in-Some.ensures.0, c.site-in-Some.ensures.1) at c.squared.ensures in
    λ km l.
    let limit = (untruncated l.at).square _ _ their.known told.1 ∙ ap (λ (k : ℕ). limit_of (km c.args.p.class c.args.q.class k)) told.0 in
    (λ i. ltb (square i) (limit i)) ∙ at_limit l.table _ _ mine their c.args.x c.args.y (omega (arith, told.0, told.1))
