use mathlib.Core.Path.{◌≡◌, ap, ◌∙◌}
use mathlib.Core.List.{List, []}
use Prim.Native.Nat.{ℕ, suc, ◌+◌, ◌<◌}
use native.Mathlib.Numerals.{add-one}
use native.Mathlib.Omega.{arith}
use lib.ListN.{length, get_or, drop, drop_of_length-le}
use lib.Seq.{sets, drop-cons, take_all}
use Rattle.ground.specs.Lists.{each}
use Rattle.stations.specs.Encode.{record_of}
use Rattle.stations.specs.declared.Station.{Station}
use Rattle.stations.proofs.Back.{length_record, length_body}
use Rattle.granting.proofs.Splicing.{sets_both}
use Rattle.granting.proofs.put_rest.Goals as goal

-- one record more
turn : (rs : List Station) (l : List ℕ) (to i : ℕ) (d : Station) → i < length rs
    → sets (sets l to (record_of (get_or rs i d))) (to + 16) (each record_of (drop (i + 1) rs)) ≡ sets l to (each record_of (drop i rs))
unfolding each
turn rs l to i d h =
    let x = get_or rs i d in
    rw (add-one, drop-cons rs i d h) (sets_both (record_of x) (each record_of (drop (suc i) rs)) l to (to + 16) (ap (λ (k : ℕ). to + k) (length_record x)))

pub loop-r-preserved : goal.loop-r-preserved
loop-r-preserved c =
    let at = c.loop-r in
    let left = each record_of (drop (at.r-index + 1) c.args.records.now) in
    record {
      place = omega arith;
      room = omega arith;
      todo = ap (λ (l : List ℕ). sets l (at.at + 16) left) c.put_station.ensures ∙ turn c.args.records.now at.rest at.at at.r-index _ c.loop-r-test.true ∙ at.invariant.todo;
    }

pub returns : goal.returns
unfolding each
returns c =
    let rs = c.args.records.now in
    let later = c.args.later.now in
    let at = c.loop-r in
    let h = c.loop-r-test.false in
    let done : drop at.r-index rs ≡ [] = drop_of_length-le rs {i = at.r-index} h in
    let whole : at.rest ≡ sets c.args.rest.now 0 (each record_of rs) = rw done at at.invariant.todo in
    c.copy.ensures
    ∙ ap (sets at.rest at.at) (take_all (length later) later (omega arith))
    ∙ ap (λ (l : List ℕ). sets l at.at later) whole
    ∙ sets_both (each record_of rs) later c.args.rest.now 0 at.at (omega (arith, length_body rs))
