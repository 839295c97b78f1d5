use Rattle.std.specs.Prelude.{Err}
use mathlib.Core.Path.{◌≡◌, sym, ap, ◌∙◌}
use Prim.Native.Nat.{ℕ}
use lib.ListN.{length}
use native.Mathlib.Omega.{arith}
use Rattle.std.proofs.Common.{rules}
use Rattle.refusals.specs.Faults.{Answer}
use Rattle.desk.specs.Answers.{room_fault}
use Rattle.desk.proofs.Answers.{no_room, enough, written}
use Rattle.listing.proofs.Findings.list_if_room.Goals as goal

pub returns-in_err-room_fault : goal.returns-in_err-room_fault
returns-in_err-room_fault c =
    let e : ◌≡◌ {A = Answer} c.from_residual.result (Err c.in_err-room_fault.field-0.0) = search rules in
    let room : c.room_fault.result ≡ room_fault (length c.args.rows.now) c.list-need.result = c.room_fault.ensures ∙ ap (λ (k : ℕ). room_fault k c.list-need.result) (omega arith) in
    rw e (no_room _ _ _ (omega (arith, c.list-need.ensures.0.next)) (sym room ∙ c.in_err-room_fault.was))

pub returns : goal.returns
returns c = written _ _ _ _ c.list.ensures.0 (omega (arith, c.list-need.ensures.0.next, enough _ _ (sym c.room_fault.ensures ∙ c.in_ok-room_fault.was)))
