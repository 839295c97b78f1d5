use Rattle.std.proofs.Common.{◌-◌, ◌*◌, arith}
use Rattle.std.proofs.lemmas.Nat.{mul-le}
use Rattle.second_rule.proofs.table_a.limit.Goals as goal

pub returns-in-Some : goal.returns-in-Some
returns-in-Some c =
    let halves = 2 * c.in-Some.r - 1 in
    omega (arith, mul-le halves halves 1997 1997 (omega (arith, c.in-Some.ensures)) (omega (arith, c.in-Some.ensures)))
