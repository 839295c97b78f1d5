-- What is granted lies within the room that was lent. Assumes nothing.
use Rattle.refusals.specs.Faults.{Answer}
use Rattle.std.specs.Prelude.{Ok}
use mathlib.Core.Path.{◌≡◌, refl, sym, ap, ◌∙◌, subst}
use mathlib.Core.Bool.{Bool, true, false}
use mathlib.Core.List.{List}
use Prim.Native.Nat.{ℕ, ◌≤◌}
use lib.Dec.{ltb}
use lib.ListN.{length}
use borrow.Author.Tests.{ltb-false}
use Rattle.ground.specs.Guard.{given}
use Rattle.desk.specs.Answers.{Outcome, grant, deny, answer, Answered}
use Rattle.telling.specs.Told.{Within}

answered : (o : Outcome) (room : ℕ) → Within room (answer o room)
unfolding given
answered (deny f) room = tt
answered (grant vs) room = go (ltb room (length vs)) refl
  where
    go : (t : Bool) → ltb room (length vs) ≡ t → Within room (answer (grant vs) room)
    go true e = rw e tt
    go false e = rw e (ltb-false room (length vs) e)

pub within : {o : Outcome} {entry exit : List ℕ} {r : Answer} (room : ℕ) → length entry ≡ room → Answered o entry exit r → Within room r
within {o} room e a = subst (Within room) (sym (a.said ∙ ap (answer o) e)) (answered o room)

pub granted : (a : Answer) (room k : ℕ) → Within room a → a ≡ Ok k → k ≤ room
granted a room k w e = subst (Within room) e w
