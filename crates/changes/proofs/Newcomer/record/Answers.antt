use mathlib.Core.Path.{◌≡◌, refl, sym, ◌∙◌}
use Rattle.std.specs.Prelude.{Ok}
use mir.Syntax.{w32}
use mir.Val.{to_z, of_z}
use mir.ValLaws.{to_z-of_z}
use native.Mathlib.Omega.{arith}
use borrow.Author.Rules.{rules}
use Rattle.desk.proofs.Asked.{Fair, fair}
use Rattle.changes.specs.Changes.{asked_of}
use Rattle.changes.proofs.Newcomer.record.Goals as goal
use Rattle.changes.proofs.Newcomer.record.Goals.{In_ok-asked_fault}

sound : (c : In_ok-asked_fault) → asked_of c.args.self ≡ Ok tt
sound c = sym (simp (to_z-of_z w32 c.args.self.latitude (search rules), to_z-of_z w32 c.args.self.longitude (search rules)) at c.asked_fault.ensures) ∙ c.in_ok-asked_fault.was

known : (c : In_ok-asked_fault) → let w = c.args.self in Fair w.channel w.channel w.class w.latitude w.longitude
known c = let w = c.args.self in fair w.channel w.channel w.class w.zone w.latitude w.longitude (sound c)

pub overflow_cast-result : goal.overflow_cast-result
overflow_cast-result c = omega (arith, (known (goal.at.overflow_cast-result c).In_ok-asked_fault).kind.high)

pub overflow_cast-result-2 : goal.overflow_cast-result-2
overflow_cast-result-2 c = omega (arith, (known (goal.at.overflow_cast-result-2 c).In_ok-asked_fault).kind.known)

pub returns : goal.returns
returns c =
    let north : to_z w32 (of_z w32 c.args.self.latitude) ≡ c.args.self.latitude = to_z-of_z w32 c.args.self.latitude (search rules) in
    let east : to_z w32 (of_z w32 c.args.self.longitude) ≡ c.args.self.longitude = to_z-of_z w32 c.args.self.longitude (search rules) in
    let k = known (goal.at.returns c).In_ok-asked_fault in
    simp (north, east) (sound (goal.at.returns c).In_ok-asked_fault, refl, record { asked = record { low = k.kind.low; high = k.kind.high }; placed = record { known = k.kind.known; placed = k.placed } })
