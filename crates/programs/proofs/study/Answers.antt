use mathlib.Core.Path.{◌≡◌, sym, ◌∙◌}
use Prim.Native.Nat.{ℕ}
use native.Mathlib.Omega.{arith}
use Rattle.asking.proofs.Inputs.{rest}
use Rattle.streams.proofs.Pieces.{tells_as}
use Rattle.subjects.specs.Subjects.{after_terms}
use Rattle.subjects.proofs.Subjects.{has_terms}
use Rattle.programs.proofs.Printing.{study-printed}
use Rattle.programs.proofs.study.Goals as goal

pub slice_bounds-check-count : goal.slice_bounds-check-count
slice_bounds-check-count c = has_terms _ _ (sym c.subject_of.ensures ∙ c.in-Check.is) (λ q. let z : ◌≡◌ {A = ℕ} 0 1 = cc in omega arith)

pub slice_bounds-check-start : goal.slice_bounds-check-start
slice_bounds-check-start c =
    let long = has_terms _ _ (sym c.subject_of.ensures ∙ c.in-Check.is) (λ q. let z : ◌≡◌ {A = ℕ} 0 1 = cc in omega arith) in
    omega arith

pub slice_bounds-arrange-count : goal.slice_bounds-arrange-count
slice_bounds-arrange-count c = has_terms _ _ (sym c.subject_of.ensures ∙ c.in-Arrange.is) (λ q. let z : ◌≡◌ {A = ℕ} 0 1 = cc in omega arith)

pub slice_bounds-arrange-start : goal.slice_bounds-arrange-start
slice_bounds-arrange-start c =
    let long = has_terms _ _ (sym c.subject_of.ensures ∙ c.in-Arrange.is) (λ q. let z : ◌≡◌ {A = ℕ} 0 1 = cc in omega arith) in
    omega arith

pub returns-in-Check : goal.returns-in-Check
returns-in-Check c = tells_as (study-printed _ (sym c.subject_of.ensures ∙ c.in-Check.is)) (rw (rest after_terms) at c.check.ensures)

pub returns-in-Arrange : goal.returns-in-Arrange
returns-in-Arrange c = tells_as (study-printed _ (sym c.subject_of.ensures ∙ c.in-Arrange.is)) (rw (rest after_terms) at c.arrange.ensures)

pub returns-in-Distance : goal.returns-in-Distance
returns-in-Distance c = tells_as (study-printed _ (sym c.subject_of.ensures ∙ c.in-Distance.is)) c.distance.ensures
