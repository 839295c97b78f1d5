-- A program prints of an input what it prints of the bytes that it reads: its first 65,536. Assumes nothing.
use mathlib.Core.Path.{◌≡◌, sym, ap, ◌∙◌}
use mathlib.Core.List.{List, ◌++◌}
use Prim.Native.Nat.{ℕ, ◌+◌, ◌≤◌, ◌<◌}
use native.Mathlib.Omega.{arith}
use native.Mathlib.Decide.{dec_lt}
use lib.ListN.{length, take, drop}
use lib.Seq.{take_all, take-add, length-take-le, drop-append_seam}
use Rattle.part73.specs.Channels.{lowest, highest}
use Rattle.survey.specs.declared.Terms.{Terms}
use Rattle.subjects.specs.Subjects.{after_terms, subject_of}
use Rattle.subjects.specs.declared.Subject.{Subject}
use Rattle.subjects.specs.declared.Subject.TheVariants.{Check as Check', Arrange as Arrange', Distance}
use Rattle.asking.proofs.Longer.{most, enough, read-check, read-reason, read_standard, read-arrange, read-change, read-distance}
use Rattle.subjects.proofs.Subjects.{first_bytes}
use Rattle.telling.specs.Texts.{printed, lines_text, short_text, reason_text, image_text, distance_text}
use Rattle.programs.specs.Printed.{printed_check, printed_arrange, printed_change, printed_reason, printed_distance, printed_as, printed_study, printed_by}
use Rattle.programs.specs.declared.Program.{Program}
use Rattle.programs.specs.declared.Program.TheVariants.{Check, Arrange, Change, Study, Reason}

module _ (m : ℕ) (g : enough ≤ m) where
  check-read : (t : Terms) (input : List ℕ) → printed_check t (take m input) ≡ printed_check t input
  unfolding printed_check
  check-read t input = ap (printed short_text) (read-check m g t input)

  arrange-read : (t : Terms) (input : List ℕ) → printed_arrange t (take m input) ≡ printed_arrange t input
  unfolding printed_arrange
  arrange-read t input = ap (printed lines_text) (read-arrange m g lowest highest t input)

  distance_read : (input : List ℕ) → printed_distance (take m input) ≡ printed_distance input
  unfolding printed_distance
  distance_read input = ap distance_text (read-distance m g input)

-- what is left after the first k of the bytes that are read
after : (k m : ℕ) (l : List ℕ) → k ≤ length l → drop k (take (k + m) l) ≡ take m (drop k l)
after k m l h =
    ap (drop k) (take-add k m l) ∙ ap (λ (n : ℕ). drop n (take k l ++ take m (drop k l))) (sym (length-take-le k l h)) ∙ drop-append_seam (take k l) (take m (drop k l))

study-read : (x : Subject) (input : List ℕ) → most < length input → printed_as x (take most input) ≡ printed_as x input
study-read (Check' t) input h = ap (printed_check t) (after after_terms 65530 input (omega arith)) ∙ check-read 65530 (omega arith) t (drop after_terms input)
study-read (Arrange' t) input h = ap (printed_arrange t) (after after_terms 65530 input (omega arith)) ∙ arrange-read 65530 (omega arith) t (drop after_terms input)
study-read Distance input h = distance_read most (omega arith) input

pub as_read : (program : Program) (input : List ℕ) → printed_by program (take most input) ≡ printed_by program input
unfolding printed_by printed_change printed_reason printed_study
as_read Check input = check-read most (omega arith) _ input
as_read Arrange input = arrange-read most (omega arith) _ input
as_read Change input = ap (printed image_text) (read-change most (omega arith) input)
as_read Reason input = λ i. printed (reason_text (read_standard most (omega arith) input i)) (read-reason most (omega arith) input i)
as_read Study input = elim (dec_lt most (length input)) [
  | yes h ↦ ap (λ (x : Subject). printed_as x (take most input)) (first_bytes most (omega arith) input (omega arith)) ∙ study-read (subject_of input) input h
  | no n ↦ ap printed_study (take_all most input (omega arith))
]
