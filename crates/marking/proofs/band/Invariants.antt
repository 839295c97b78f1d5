use mathlib.Core.Bool.{◌&&◌}
use Prim.Native.Nat.{◌≤◌, max}
use lib.Dec.{leb, ltb}
use Rattle.marking.specs.Marks.{Struck}
use Rattle.marking.proofs.band.Given as goal

abbrev pub invariant-loop-m : goal.invariant-loop-m
invariant-loop-m l = record { most : l.m ≤ max l.first l.end; struck : Struck (λ x. leb l.low x && ltb x l.m) 221 300 l.who l.initial.marks l.marks }
