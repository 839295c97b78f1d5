-- What an input is answered with, by where it ends and what it names. Assumes nothing.
use Rattle.std.specs.Prelude.{Err}
use mathlib.Core.Path.{◌≡◌, refl}
use mathlib.Core.Bool.{Bool, true, false}
use mathlib.Core.List.{List, [], ◌∷◌}
use Prim.Native.Nat.{ℕ, ◌-◌, ◌<◌}
use native.Mathlib.Omega.{arith}
use lib.Dec.{eqb}
use lib.ListN.{length, take, drop, length-drop}
use lib.Seq.{take_all}
use borrow.Author.Tests.{lt-ltb, le-ltb, ne_eqb}
use Rattle.ground.specs.Guard.{given}
use Rattle.wire.specs.Be.{be}
use Rattle.refusals.specs.Faults.{Answer}
use Rattle.refusals.specs.declared.Fault.TheVariants.{UnderEightBytes}
use Rattle.desk.specs.Answers.{Outcome, Answered}
use Rattle.desk.proofs.Answers.{denied}
use Rattle.asking.specs.Asking.{ends_early, past, change_input}

-- refused as a table under 8 bytes
pub early : (entry : List ℕ) (r : Answer) → r ≡ Err UnderEightBytes → Answered ends_early entry entry r
early entry r e = rw e (denied UnderEightBytes entry)

-- the input ends before the table
pub cut : (k : ℕ) (input : List ℕ) (o : Outcome) (entry : List ℕ) (r : Answer) → length input < k → r ≡ Err UnderEightBytes → Answered (past k input o) entry entry r
unfolding given past
cut k input o entry r h e = rw (lt-ltb _ _ h) (early entry r e)

-- it goes on
pub whole : {o : Outcome} {entry exit : List ℕ} {r : Answer} (k : ℕ) (input : List ℕ) → (length input < k → ⊥) → Answered o entry exit r → Answered (past k input o) entry exit r
unfolding given past
whole k input h a = rw (le-ltb (length input) k (omega (arith, h))) a

-- a letter that is the one asked about, or another
pub taken : {o : Outcome} (o' : Outcome) {entry exit : List ℕ} {r : Answer} (b : Bool) → b ≡ true → Answered o entry exit r → Answered (given b o o') entry exit r
unfolding given
taken o' b e a = rw e a

pub passed : (o : Outcome) {o' : Outcome} {entry exit : List ℕ} {r : Answer} (b : Bool) → b ≡ false → Answered o' entry exit r → Answered (given b o o') entry exit r
unfolding given
passed o b e a = rw e a

-- the bytes from the table on
pub rest : (k : ℕ) (input : List ℕ) → take (length input - k) (drop k input) ≡ drop k input
rest k input = take_all (length input - k) (drop k input) (simp length-drop (omega arith))

-- no letter in an empty input
nothing : (input : List ℕ) → length input ≡ 0 → be 1 input 0 ≡ 0
unfolding be
nothing [] e = refl
nothing (x ∷ xs) e = absurd (omega arith)

pub no_letter : (input entry : List ℕ) (r : Answer) → length input ≡ 0 → r ≡ Err UnderEightBytes → Answered (change_input input) entry entry r
unfolding change_input
no_letter input entry r z e =
    let n : be 1 input 0 ≡ 0 = nothing input z in
    passed _ (eqb (be 1 input 0) 97) (ne_eqb (be 1 input 0) 97 (λ h. omega arith))
    (passed _ (eqb (be 1 input 0) 119) (ne_eqb (be 1 input 0) 119 (λ h. omega arith))
    (passed _ (eqb (be 1 input 0) 109) (ne_eqb (be 1 input 0) 109 (λ h. omega arith))
    (early entry r e)))
