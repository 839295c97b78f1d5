-- 02, R-1, R-6: what an input of `fm_study` asks, and the terms of a study in a program's input. Assumes nothing.
use Rattle.std.specs.Prelude.{List, ℕ, ◌+◌, eqb, ltb, length}
use Rattle.ground.specs.Guard.{given}
use Rattle.wire.specs.Be.{be}
use Rattle.survey.specs.declared.Terms.{Terms}
use Rattle.subjects.specs.declared.Subject.{Subject}
use Rattle.subjects.specs.declared.Subject.TheVariants.{Check, Arrange, Distance}

-- the terms from a place on: id 32, standard 8
abbrev pub terms_at : List ℕ → ℕ → Terms
terms_at s at = record { aside = be 4 s at; standard = be 1 s (at + 4) }

-- how many bytes terms take, and letter and terms
abbrev pub terms_length : ℕ
terms_length = 5

abbrev pub after_terms : ℕ
after_terms = 1 + terms_length

-- the letter `c` or `a`, and terms: then follows what `fm_check` or `fm_arrange` reads. All else is put as a distance
unfoldable pub subject_of : List ℕ → Subject
subject_of input =
    given (ltb (length input) after_terms) Distance
    (given (eqb (be 1 input 0) 99) (Check (terms_at input 1))
    (given (eqb (be 1 input 0) 97) (Arrange (terms_at input 1))
    Distance))
