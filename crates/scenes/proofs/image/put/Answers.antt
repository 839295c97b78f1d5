use Rattle.std.proofs.Common.{◌≡◌, ℕ, ◌+◌, ◌-◌, min, List, ◌++◌, length, take, drop, ap, ◌∙◌, arith, length-drop}
use Rattle.std.proofs.lemmas.List.{length-take-le, take-take}
use Rattle.std.proofs.lemmas.List.Edits.{paste_none}
use Rattle.std.proofs.lemmas.Slice.{put_mid-paste}
use Rattle.scenes.proofs.image.put.Goals as goal

pub returns-then-at-table : goal.returns-then-at-table
returns-then-at-table g c =
    let xs : List ℕ = c.args.table.now in
    let room : ℕ = c.min-room.result in
    let bytes : List ℕ = take room c.args.bytes in
    let h = c.copy_from_slice.ensures in
    let lent = length-take-le (c.args.at + room - c.args.at) (drop c.args.at xs) (omega (arith, length-drop c.args.at xs)) in
    let long : room ≡ length bytes = omega (arith, lent, h.len, ap length h.after) in
    rw (← c.min-room.ensures)
    (put_mid-paste c.args.at _ xs _ bytes room h.after (omega arith) long
    ∙ ap (λ t. take c.args.at xs ++ t ++ drop (c.args.at + room) xs) (take-take room room c.args.bytes (omega arith)))

pub returns-else-at-table : goal.returns-else-at-table
returns-else-at-table g c =
    let none : min g.row.N (length c.args.table.now - c.args.at) ≡ 0 = omega arith in
    rw none (paste_none c.args.table.now c.args.at c.args.bytes)
