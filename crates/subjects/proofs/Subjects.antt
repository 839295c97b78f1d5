-- What an input of `fm_study` asks: where letter and terms are there, and by its first bytes alone. Assumes nothing.
use mathlib.Core.Path.{◌≡◌, refl, sym, ◌∙◌}
use mathlib.Core.Bool.{Bool, true, false, cond}
use mathlib.Core.List.{List}
use Prim.Native.Nat.{ℕ, ◌≤◌}
use native.Mathlib.Omega.{arith}
use native.Mathlib.Decide.{dec_lt}
use lib.Dec.{ltb}
use lib.ListN.{length, take}
use lib.Seq.{length-take-le, get_or-take}
use borrow.Author.Tests.{lt-ltb, le-ltb, ne_eqb}
use Rattle.ground.specs.Guard.{given}
use Rattle.wire.specs.Be.{be}
use Rattle.wire.proofs.Alike.{Alike, be_alike}
use Rattle.subjects.specs.Subjects.{after_terms, subject_of}
use Rattle.subjects.specs.declared.Subject.{Subject}
use Rattle.subjects.specs.declared.Subject.TheVariants.{Distance}

-- a study of a table has a letter and terms before what is asked
pub has_terms : (input : List ℕ) (x : Subject) → subject_of input ≡ x → (x ≡ Distance → ⊥) → after_terms ≤ length input
unfolding subject_of given
has_terms input x e other = elim (dec_lt (length input) after_terms) [ yes h ↦ absurd (other (sym e ∙ rw (lt-ltb _ _ h))) | no n ↦ omega arith ]

-- any other letter than `c` and `a` is put as a distance
pub other_letter : (input : List ℕ) → (be 1 input 0 ≡ 99 → ⊥) → (be 1 input 0 ≡ 97 → ⊥) → subject_of input ≡ Distance
unfolding subject_of given
other_letter input c a = rw (ne_eqb (be 1 input 0) 99 c, ne_eqb (be 1 input 0) 97 a) (go (ltb (length input) after_terms))
  where
    go : (b : Bool) → cond b Distance Distance ≡ Distance
    go true = refl
    go false = refl

-- its first bytes tell it, where there are as many as letter and terms take
pub first_bytes : (m : ℕ) → after_terms ≤ m → (input : List ℕ) → m ≤ length input → subject_of (take m input) ≡ subject_of input
unfolding subject_of given
first_bytes m g input h =
    let a : Alike m (take m input) input = record { at = λ j l. get_or-take m input j 0 l } in
    rw (le-ltb (length (take m input)) after_terms (omega (arith, length-take-le m input h)), le-ltb (length input) after_terms (omega arith), be_alike a 1 0 (omega arith), be_alike a 4 1 (omega arith), be_alike a 1 5 (omega arith))
