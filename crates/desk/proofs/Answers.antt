-- What a question answers, by the way that it took; and that the promise leaves nothing open. Assumes nothing.
use Rattle.std.specs.Prelude.{Ok, Err}
use mathlib.Core.Path.{◌≡◌, refl, sym, ap, ◌∙◌}
use mathlib.Core.Bool.{Bool, true, false}
use mathlib.Core.List.{List, ◌++◌}
use Prim.Native.Nat.{ℕ, ◌+◌, ◌≤◌, ◌<◌}
use native.Mathlib.Omega.{arith}
use lib.Dec.{ltb}
use lib.ListN.{length, drop}
use lib.Seq.{sets-eq}
use borrow.Author.Tests.{lt-ltb, le-ltb, ltb-true, ltb-false}
use Rattle.ground.specs.Guard.{given}
use Rattle.ground.specs.Writing.{Wrote}
use Rattle.ground.proofs.Guards.{past, taken}
use Rattle.refusals.specs.Faults.{Verdict, Answer}
use Rattle.refusals.specs.declared.Fault.{Fault}
use Rattle.refusals.specs.declared.Fault.TheVariants.{DoesNotFit}
use Rattle.desk.specs.Answers.{Outcome, grant, deny, on_table, Answered, room_fault}

-- ---- the ways out

pub denied : (f : Fault) (entry : List ℕ) → Answered (deny f) entry entry (Err f)
denied f entry = record { said = refl; held = refl }

-- the table is refused
pub table-refused : (o : Outcome) (entry : List ℕ) (j : Answer) (f : Fault) → j ≡ Err f → Answered (on_table j o) entry entry (Err f)
table-refused o entry j f e = rw e (denied f entry)

-- the table is judged whole, and the question goes on
pub table-passed : {o : Outcome} {entry exit : List ℕ} {r : Answer} (j : Answer) (n : ℕ) → j ≡ Ok n → Answered o entry exit r → Answered (on_table j o) entry exit r
table-passed j n e a = rw e a

-- 22
pub does_not_fit : (vs entry : List ℕ) (n : ℕ) → n ≡ length vs → length entry < n → Answered (grant vs) entry entry (Err (DoesNotFit n))
unfolding given
does_not_fit vs entry n e h =
    let h' : length entry < length vs = omega arith in
    record { said = rw (lt-ltb _ _ h', e); held = rw (lt-ltb _ _ h') }

pub no_room : (vs entry : List ℕ) (n : ℕ) {f : Fault} → n ≡ length vs → room_fault (length entry) n ≡ Err f → Answered (grant vs) entry entry (Err f)
unfolding room_fault
no_room vs entry n {f} e h =
    let t = taken _ _ _ _ h (λ z. never z) in
    let same : DoesNotFit n ≡ f = cc in
    rw (← same) (does_not_fit vs entry n e (ltb-true _ _ t.0))
  where
    never : ◌≡◌ {A = Verdict} (Ok tt) (Err f) → ⊥
    never z = cc

-- the room is enough
pub enough : (room need : ℕ) → room_fault room need ≡ Ok tt → need ≤ room
unfolding room_fault
enough room need h = ltb-false room need (past _ _ _ _ h (λ z. never z)).0
  where
    never : {f : Fault} → ◌≡◌ {A = Verdict} (Err f) (Ok tt) → ⊥
    never z = cc

-- granted, and written
pub written : (vs entry exit : List ℕ) (n : ℕ) → Wrote vs entry 0 exit n → length vs ≤ length entry → Answered (grant vs) entry exit (Ok n)
unfolding given
written vs entry exit n w h =
    let e : n ≡ length vs = omega (arith, w.next) in
    let z : 0 + length vs ≡ length vs = omega arith in
    record {
      said = rw (le-ltb _ _ h, e);
      held = rw (le-ltb _ _ h) (w.stored ∙ sets-eq vs entry 0 (omega arith) ∙ ap (λ (k : ℕ). vs ++ drop k entry) z);
    }

-- ---- what the promise says

-- two results that meet it for the same inputs are equal
pub one_answer : {o : Outcome} {entry exit exit' : List ℕ} {r r' : Answer} → Answered o entry exit r → Answered o entry exit' r' → (exit ≡ exit') × (r ≡ r')
one_answer a b = (a.held ∙ sym b.held, a.said ∙ sym b.said)

-- a refusal leaves the lent buffer as it was
pub untouched : (o : Outcome) {entry exit : List ℕ} {f : Fault} → Answered o entry exit (Err f) → exit ≡ entry
unfolding given
untouched (deny g) a = a.held
untouched (grant vs) {entry} {exit} {f} a = go (ltb (length entry) (length vs)) refl
  where
    go : (t : Bool) → ltb (length entry) (length vs) ≡ t → exit ≡ entry
    go true e = a.held ∙ rw e
    go false e = let z : ◌≡◌ {A = Answer} (Err f) (Ok (length vs)) = a.said ∙ rw e in absurd (never z)
      where
        never : ◌≡◌ {A = Answer} (Err f) (Ok (length vs)) → ⊥
        never z = let q : ◌≡◌ {A = ℕ} 0 1 = cc in omega arith
