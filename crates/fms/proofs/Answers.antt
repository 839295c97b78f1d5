-- What an answer in one number tells: its number and its value; that a refusal writes nothing; and that the promise leaves nothing
-- open. Assumes nothing.
use Rattle.refusals.specs.Faults.{Answer}
use Rattle.std.specs.Prelude.{Ok, Err}
use mathlib.Core.Path.{◌≡◌, refl, sym, ◌∙◌}
use mathlib.Core.List.{List}
use Prim.Native.Nat.{ℕ, ◌/◌}
use native.Mathlib.Omega.{arith}
use lib.ListN.{length}
use Rattle.desk.specs.Answers.{Outcome, answer, Answered}
use Rattle.desk.proofs.Answers.{untouched}
use Rattle.fms.specs.Packed.{Says, Packed}

pub packed_as : {o : Outcome} {entry exit : List ℕ} {a : Answer} {r : ℕ} → Answered o entry exit a → Says a r → Packed o entry exit r
packed_as w h = record { said = rw w.said at h; held = w.held }

-- one number is an answer
pub one_number : {a : Answer} {r r' : ℕ} → Says a r → Says a r' → r ≡ r'
one_number h k = omega (arith, h.number, h.value, k.number, k.value)

-- two results that meet it for the same inputs are equal
pub one_result : {o : Outcome} {entry exit exit' : List ℕ} {r r' : ℕ} → Packed o entry exit r → Packed o entry exit' r' → (exit ≡ exit') × (r ≡ r')
one_result a b = (a.held ∙ sym b.held, one_number a.said b.said)

-- a refusal writes nothing
pub refusal-untouched : (o : Outcome) {entry exit : List ℕ} {r : ℕ} → Packed o entry exit r → (r / 4294967296 ≡ 0 → ⊥) → exit ≡ entry
refusal-untouched o {entry} {exit} {r} p n = go (answer o (length entry)) refl p.said
  where
    go : (a : Answer) → answer o (length entry) ≡ a → Says a r → exit ≡ entry
    go (Ok k) e h = absurd (n h.number)
    go (Err f) e h = untouched o (record { said = sym e; held = p.held })
