use mathlib.Core.Path.{◌≡◌, sym, ap, ◌∙◌}
use Rattle.std.specs.Prelude.{Err}
use Prim.Native.Nat.{ℕ}
use native.Mathlib.Omega.{arith}
use borrow.Author.Rules.{rules}
use borrow.Rule.Slice.PartMut.{same_len_mid}
use Rattle.versions.specs.Version.{version_for}
use Rattle.granting.proofs.Splicing.{enough, sizes, tail_long, no_room, granted}
use Rattle.granting.proofs.splice.Goals as goal

pub count_of-requires : goal.count_of-requires
count_of-requires c = omega (arith, sizes c.requires)

pub returns-in_err-room_fault : goal.returns-in_err-room_fault
returns-in_err-room_fault c =
    let e : c.from_residual.result ≡ Err c.in_err-room_fault.field-0.0 = search rules in
    rw e (no_room c.args.records.now c.requires (rw c.count_of.ensures at (sym c.room_fault.ensures ∙ c.in_err-room_fault.was)))

pub put_header-requires : goal.put_header-requires
put_header-requires c = omega (arith, enough _ _ (sym c.room_fault.ensures ∙ c.in_ok-room_fault.was))

pub overflow_mul-from : goal.overflow_mul-from
overflow_mul-from c = omega (arith, sizes c.requires)

pub overflow_add-from : goal.overflow_add-from
overflow_add-from c = omega (arith, sizes c.requires)

pub copy-requires : goal.copy-requires
copy-requires c =
    record {
      source = omega (arith, sizes c.requires, c.requires.front);
      room = omega (arith, sizes c.requires, c.requires.front, enough _ _ (sym c.room_fault.ensures ∙ c.in_ok-room_fault.was));
    }

pub slice_bounds-put_rest-count : goal.slice_bounds-put_rest-count
slice_bounds-put_rest-count c = omega (arith, sizes c.requires, same_len_mid {X = ℕ}, enough _ _ (sym c.room_fault.ensures ∙ c.in_ok-room_fault.was))

pub slice_bounds-put_rest-start : goal.slice_bounds-put_rest-start
slice_bounds-put_rest-start c = omega (arith, sizes c.requires, same_len_mid {X = ℕ}, enough _ _ (sym c.room_fault.ensures ∙ c.in_ok-room_fault.was))

pub slice_bounds-put_rest-count-2 : goal.slice_bounds-put_rest-count-2
slice_bounds-put_rest-count-2 c = omega (arith, sizes c.requires)

pub slice_bounds-put_rest-start-2 : goal.slice_bounds-put_rest-start-2
slice_bounds-put_rest-start-2 c = omega (arith, sizes c.requires)

pub put_rest-requires : goal.put_rest-requires
put_rest-requires c = omega (arith, sizes c.requires, same_len_mid {X = ℕ}, tail_long, enough _ _ (sym c.room_fault.ensures ∙ c.in_ok-room_fault.was))

pub returns : goal.returns
returns c =
    rw c.count_of.ensures
    (granted c.args.records.now c.requires (λ i. (c.type_inv.table i).fits) (rw c.count_of.ensures at (enough _ _ (sym c.room_fault.ensures ∙ c.in_ok-room_fault.was)))
    (c.version_for-version.ensures ∙ ap version_for (omega (arith, c.count_of.ensures))) (rw c.count_of.ensures at c.put_header.ensures) c.copy.ensures c.put_rest.ensures)
