use mathlib.Core.Path.{◌∙◌}
use Prim.Native.Nat.{◌-◌}
use native.Mathlib.Omega.{arith}
use Rattle.stations.proofs.Whole.{whole_headed}
use Rattle.stations.proofs.Scanning.{id_next}
use Rattle.stations.proofs.judging.id_before.Goals as goal

pub get-requires : goal.get-requires
get-requires c = let p = c.requires in
    omega (arith, (whole_headed _ p.headed).long, p.placed, p.within, c.if-at-eq-HEADER.false)

pub returns : goal.returns
returns c = let p = c.requires in
    let at = c.args.at in
    let l = c.if-at-eq-HEADER.false in
    c.get.ensures ∙ id_next _ (at - 16) at (omega (arith, p.placed, l)) (omega (arith, p.placed, l))
