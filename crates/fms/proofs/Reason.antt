-- 02, R-2: what the reason for C tells: "clear" and a refusal write nothing, "blocked" fills the four places; and nothing is left
-- open. Assumes nothing.
use Rattle.refusals.specs.Faults.{Answer}
use Rattle.refusals.specs.declared.Fault.{Fault}
use mathlib.Core.Path.{◌≡◌, sym, ap, ◌∙◌}
use mathlib.Core.List.{List, [], ◌++◌, append-nil}
use Prim.Native.Nat.{ℕ}
use native.Mathlib.Omega.{arith}
use lib.ListN.{length, drop_of_length-le}
use lib.Seq.{sets, sets-eq}
use Rattle.desk.specs.Answers.{Outcome, grant, deny}
use Rattle.neighbours.specs.declared.Neighbour.{Neighbour}
use Rattle.reasons.specs.Reason.{Why, numbers_of, outcome_of}
use Rattle.fms.specs.Packed.{Says}
use Rattle.fms.specs.Reason.{located, granted, Explained}
use Rattle.fms.proofs.Answers.{one_number}

pub explained_as : {s : List ℕ} {o : Outcome} (w : Why) {entry exit : List ℕ} {a : Answer} {r : ℕ} → outcome_of w ≡ o → exit ≡ sets entry 0 (granted (outcome_of w)) → a ≡ located s (outcome_of w) → Says a r → Explained s o entry exit r
explained_as {s} w {entry} e h l k = record { said = rw (l ∙ ap (located s) e) at k; held = h ∙ ap (λ (x : Outcome). sets entry 0 (granted x)) e }

-- two results that meet it for the same inputs are equal
pub one_explained : {s : List ℕ} {o : Outcome} {entry exit exit' : List ℕ} {r r' : ℕ} → Explained s o entry exit r → Explained s o entry exit' r' → (exit ≡ exit') × (r ≡ r')
one_explained a b = (a.held ∙ sym b.held, one_number a.said b.said)

-- with "clear" and with a refusal nothing is written
pub clear-untouched : {s entry exit : List ℕ} {r : ℕ} → Explained s (grant []) entry exit r → exit ≡ entry
clear-untouched w = w.held

pub refused-untouched : {s entry exit : List ℕ} {f : Fault} {r : ℕ} → Explained s (deny f) entry exit r → exit ≡ entry
refused-untouched w = w.held

-- with "blocked" the four places hold id, D, R and column
pub blocked_holds : {s entry exit : List ℕ} {n : Neighbour} {r : ℕ} → length entry ≡ 4 → Explained s (grant (numbers_of n)) entry exit r → exit ≡ numbers_of n
blocked_holds {entry = entry} {n = n} e w =
    w.held ∙ (sets-eq (numbers_of n) entry 0 (omega (arith, e)) ∙ (ap (λ (l : List ℕ). numbers_of n ++ l) (drop_of_length-le entry {i = 4} (omega (arith, e))) ∙ append-nil (numbers_of n)))
