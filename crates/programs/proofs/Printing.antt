-- From the answer that a question gave to all that its program prints. Assumes nothing.
use Rattle.std.specs.Prelude.{Ok, Err}
use mathlib.Core.Path.{◌≡◌, refl, sym, ap, ◌∙◌}
use mathlib.Core.Bool.{Bool, true, false, cond, not}
use mathlib.Core.List.{List, ◌∷◌, ◌++◌}
use Prim.Native.Nat.{ℕ, ◌+◌, ◌-◌, ◌*◌, ◌≤◌, ◌<◌}
use native.Mathlib.Omega.{arith}
use lib.Dec.{eqb}
use lib.ListN.{length, take, drop, length-drop}
use lib.Seq.{take-append_seam}
use borrow.Author.Tests.{lt-ltb, le-ltb, ne_eqb}
use Rattle.ground.specs.Guard.{given}
use Rattle.part73.specs.Channels.{channel_count}
use Rattle.part73.specs.Standards.{by_table_a}
use Rattle.survey.specs.declared.Terms.{Terms}
use Rattle.refusals.specs.Faults.{Answer, refusal}
use Rattle.refusals.specs.declared.Fault.TheVariants.{UnderEightBytes}
use Rattle.lines.specs.Lines.{refused_line}
use Rattle.desk.specs.Answers.{Outcome, grant, deny, Answered}
use Rattle.wire.specs.Be.{be}
use Rattle.asking.specs.Asking.{past, check_input, reason_input, arrange_input, change_input, distance_input}
use Rattle.subjects.specs.Subjects.{after_terms, subject_of}
use Rattle.subjects.specs.declared.Subject.{Subject}
use Rattle.subjects.specs.declared.Subject.TheVariants.{Check as Check', Arrange as Arrange'}
use Rattle.subjects.proofs.Subjects.{other_letter}
use Rattle.asking.proofs.Fitting.{check_fits, arrange_fits, change_fits}
use Rattle.telling.specs.Texts.{printed, lines_text, short_text, image_text, distance_text}
use Rattle.telling.specs.Told.{told, is_refused}
use Rattle.versions.specs.Version.{limit}
use Rattle.programs.specs.OneChannel.{channel_text, is_denied}
use Rattle.programs.specs.Printed.{printed_check, printed_arrange, printed_change, printed_reason, printed_distance, printed_as, printed_study, printed_by}
use Rattle.programs.specs.declared.Program.TheVariants.{Check, Arrange}

-- an outcome that fits the room that was lent for it
abbrev Fits : Outcome → ℕ → Type 0
Fits o room = (vs : List ℕ) → o ≡ grant vs → length vs ≤ room

module _ {entry exit : List ℕ} {r : Answer} where
  said : (vs : List ℕ) → length vs ≤ length entry → Answered (grant vs) entry exit r → (r ≡ Ok (length vs)) × (exit ≡ vs ++ drop (length vs) entry)
  unfolding given
  said vs h a = (a.said ∙ rw (le-ltb _ _ h), a.held ∙ rw (le-ltb _ _ h))

  -- is told as it is printed: 22 does not occur
  as_printed : (text : List ℕ → List ℕ) (o : Outcome) → Fits o (length entry) → Answered o entry exit r → told text exit r ≡ printed text o
  as_printed text (deny f) h a = ap (told text exit) a.said
  as_printed text (grant vs) h a =
      let s = said vs (h vs refl) a in
      ap (told text exit) s.0 ∙ ap (λ (l : List ℕ). text (take (length vs) l)) s.1 ∙ ap text (take-append_seam vs (drop (length vs) entry))

  as_denied : (o : Outcome) → Fits o (length entry) → Answered o entry exit r → is_refused r ≡ is_denied o
  as_denied (deny f) h a = ap is_refused a.said
  as_denied (grant vs) h a = ap is_refused (said vs (h vs refl) a).0

  pub check-printed : (t : Terms) (input : List ℕ) → length entry ≡ 3 * limit → Answered (check_input t input) entry exit r → told short_text exit r ≡ printed_check t input
  unfolding printed_check
  check-printed t input e a = as_printed short_text (check_input t input) (λ vs g. omega (arith, check_fits t input vs g)) a

  pub change-printed : (input : List ℕ) → length entry ≡ 8 + 16 * limit → Answered (change_input input) entry exit r → told image_text exit r ≡ printed_change input
  unfolding printed_change
  change-printed input e a = as_printed image_text (change_input input) (λ vs g. omega (arith, change_fits input vs g)) a

  module _ (c : ℕ) (t : Terms) (input : List ℕ) (e : length entry ≡ 3 * (channel_count - 1)) (a : Answered (arrange_input c c t input) entry exit r) where
    pub channel-printed : told lines_text exit r ≡ channel_text t input c
    unfolding channel_text
    channel-printed = as_printed lines_text (arrange_input c c t input) (λ vs g. omega (arith, arrange_fits c t input vs g)) a

    pub channel_denied : is_refused r ≡ is_denied (arrange_input c c t input)
    channel_denied = as_denied (arrange_input c c t input) (λ vs g. omega (arith, arrange_fits c t input vs g)) a

-- ---- a study

pub study-printed : (input : List ℕ) {x : Subject} → subject_of input ≡ x → printed_as x input ≡ printed_study input
unfolding printed_study
study-printed input {x} e = ap (λ (y : Subject). printed_as y input) (sym e)

-- with the id 0 and the standard 1 after its letter it prints what the program of 01 prints
pub study_as_check : (input : List ℕ) → printed_study (99 ∷ 0 ∷ 0 ∷ 0 ∷ 0 ∷ by_table_a ∷ input) ≡ printed_by Check input
unfolding printed_study printed_by subject_of given be
study_as_check input = let l : List ℕ = 99 ∷ 0 ∷ 0 ∷ 0 ∷ 0 ∷ by_table_a ∷ input in rw (le-ltb (length l) after_terms (omega arith))

pub study_as_arrange : (input : List ℕ) → printed_study (97 ∷ 0 ∷ 0 ∷ 0 ∷ 0 ∷ by_table_a ∷ input) ≡ printed_by Arrange input
unfolding printed_study printed_by subject_of given be
study_as_arrange input = let l : List ℕ = 97 ∷ 0 ∷ 0 ∷ 0 ∷ 0 ∷ by_table_a ∷ input in rw (le-ltb (length l) after_terms (omega arith))

-- any letter but `c`, `a` and `d` is refused as a table under 8 bytes
pub study_unnamed : (input : List ℕ) → (be 1 input 0 ≡ 99 → ⊥) → (be 1 input 0 ≡ 97 → ⊥) → (be 1 input 0 ≡ 100 → ⊥) → printed_study input ≡ refused_line (refusal UnderEightBytes)
unfolding printed_distance distance_input given
study_unnamed input c a d = sym (study-printed input (other_letter input c a)) ∙ rw (ne_eqb (be 1 input 0) 100 d) (go (not (eqb (length input) 17)))
  where
    go : (b : Bool) → distance_text (cond b (Err UnderEightBytes) (Err UnderEightBytes)) ≡ refused_line (refusal UnderEightBytes)
    go true = refl
    go false = refl

-- and so is input that ends before the table: 12 bytes after the terms of a Check, 10 after those of an Arrange
ends_early_lem : (k : ℕ) (text : List ℕ → List ℕ) (input : List ℕ) (o : Outcome) → 0 < k → length input < after_terms + k → printed text (past k (drop after_terms input) o) ≡ refused_line (refusal UnderEightBytes)
unfolding past given
ends_early_lem k text input o p h = rw (lt-ltb (length (drop after_terms input)) k (omega (arith, length-drop after_terms input, h)))

pub study_early_check : (input : List ℕ) {t : Terms} → subject_of input ≡ Check' t → length input < 18 → printed_study input ≡ refused_line (refusal UnderEightBytes)
unfolding printed_check check_input
study_early_check input e h = sym (study-printed input e) ∙ ends_early_lem 12 short_text input _ (omega arith) (omega arith)

pub study_early_arrange : (input : List ℕ) {t : Terms} → subject_of input ≡ Arrange' t → length input < 16 → printed_study input ≡ refused_line (refusal UnderEightBytes)
unfolding printed_arrange arrange_input
study_early_arrange input e h = sym (study-printed input e) ∙ ends_early_lem 10 lines_text input _ (omega arith) (omega arith)

-- ---- the reason

-- input that ends before the table: 12 bytes and the terms
pub reason_early : (input : List ℕ) → length input < 17 → printed_reason input ≡ refused_line (refusal UnderEightBytes)
unfolding printed_reason reason_input past given
reason_early input h = rw (lt-ltb (length input) 17 h)
