use mathlib.Core.Path.{◌≡◌, ◌∙◌, refl, sym}
use mathlib.Core.List.{List}
use Prim.Native.Nat.{ℕ, ◌+◌, ◌≤◌, ◌<◌}
use native.Mathlib.Nat.{add-suc}
use native.Mathlib.Numerals.{add-one}
use native.Mathlib.Omega.{arith}
use lib.ListN.{length, get_or, take, drop, set, length-drop, length-set}
use lib.Seq.{sets, drop-cons, length-take-le, get_or-take, get_or-drop}
use Rattle.stations.proofs.writing.copy.Goals as goal

-- one byte more
turn : (table image : List ℕ) (from to count k : ℕ) → from + count ≤ length table → k < count →
    let vs = take count (drop from table) in
    sets image (to + k) (drop k vs) ≡ sets (set image (to + k) (get_or table (from + k) 0)) (to + (k + 1)) (drop (k + 1) vs)
turn table image from to count k h l =
    let vs = take count (drop from table) in
    let long : k < length vs = rw (length-take-le count (drop from table) (simp length-drop (omega arith))) l in
    rw (drop-cons vs k 0 long, get_or-take count (drop from table) k 0 l, get_or-drop, add-one, add-suc) refl

pub loop-k-preserved : goal.loop-k-preserved
loop-k-preserved c =
    let at = c.loop-k in
    let e = turn c.args.table.now at.image c.args.from c.args.to c.args.count at.k c.requires.source c.loop-k-test.true in
    (simp length-set at.invariant.0, sym e ∙ at.invariant.1)
