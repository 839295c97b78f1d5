use mathlib.Core.Path.{◌≡◌, ◌∙◌}
use mathlib.Core.Bool.{true, false}
use Prim.Native.Nat.{◌+◌, ◌*◌, ◌/◌}
use native.Mathlib.Omega.{arith}
use Rattle.repeats.specs.Records.{place}
use Rattle.repeats.proofs.Records.{agrees_by}
use Rattle.repeats.proofs.agree.Goals as goal

pub returns-then-eq : goal.returns-then-eq
returns-then-eq c =
    let mine : 8 + 8 * c.args.own ≡ place (c.args.own / 2) = omega (arith, c.requires.twice.even) in
    let theirs : 8 + 8 * c.args.other ≡ place (c.args.other / 2) = omega (arith, c.requires.even) in
    rw (mine, theirs) (agrees_by _ _ _ true c.requires.is c.subject_at.ensures c.if-eq.ensures)

pub returns-else-eq : goal.returns-else-eq
returns-else-eq c = c.if-eq.false ∙ agrees_by _ _ _ false c.requires.is c.subject_at.ensures c.if-eq.ensures
