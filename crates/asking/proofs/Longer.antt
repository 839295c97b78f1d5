-- An input that is longer than any table and what stands before it is answered as its first bytes are: as its first 65,536, or
-- a few less where a letter and terms stand before it. Assumes nothing.
use Rattle.refusals.specs.Faults.{Answer}
use Rattle.refusals.specs.declared.Fault.{Fault}
use Rattle.std.specs.Prelude.{Err}
use mathlib.Core.Path.{◌≡◌, sym, ap, ◌∙◌}
use mathlib.Core.List.{List}
use Prim.Native.Nat.{ℕ, ◌+◌, ◌≤◌, ◌<◌}
use native.Mathlib.Omega.{arith}
use native.Mathlib.Decide.{dec_lt}
use lib.ListN.{length, take, drop, length-drop}
use lib.Seq.{take_all, length-take-le, get_or-take, get_or-drop}
use borrow.Author.Tests.{le-ltb, ne_eqb}
use Rattle.ground.specs.Guard.{given}
use Rattle.wire.proofs.Alike.{Alike, be_alike}
use Rattle.versions.proofs.Versions.{limit_small}
use Rattle.stations.specs.Image.{judged}
use Rattle.stations.proofs.Longer.{refused_alike}
use Rattle.desk.specs.Answers.{Outcome, deny, on_table}
use Rattle.survey.specs.declared.Terms.{Terms}
use Rattle.studies.specs.Studies.{study}
use Rattle.checks.specs.Check.{checked_for}
use Rattle.reasons.specs.Reason.{reasoned_for}
use Rattle.arrangements.specs.Arrange.{arranged_for}
use Rattle.changes.specs.Changes.{changed_for}
use Rattle.asking.specs.Asking.{past, check_input, reason_input, standard_of, arrange_input, add_input, withdraw_input, move_input, change_input, distance_input}

-- the bytes that a program reads
abbrev pub most : ℕ
most = 65536

-- the same, but for the few that may stand before what is asked
abbrev pub enough : ℕ
enough = 65500

refused : (k : ℕ) (input : List ℕ) → k ≤ length input → (j : Answer) (f : Fault) → j ≡ Err f → (o : Outcome) → past k input (on_table j o) ≡ deny f
unfolding past given
refused k input h j f e o = rw (le-ltb (length input) k h, e)

module _ (m : ℕ) (g : enough ≤ m) (input : List ℕ) (h : m < length input) where
  read-long : length (take m input) ≡ m
  read-long = length-take-le m input (omega arith)

  same_front : Alike m (take m input) input
  same_front = record { at = λ j l. get_or-take m input j 0 l }

  -- a table after the first k bytes is too long, in the part as in the whole
  too_long : (k : ℕ) → k ≤ 17 → (o o' : Outcome) → past k (take m input) (on_table (judged (drop k (take m input))) o) ≡ past k input (on_table (judged (drop k input)) o')
  too_long k l o o' =
      let part = drop k (take m input) in
      let all = drop k input in
      let a : Alike 8 part all = record { at = λ j n. get_or-drop k (take m input) j 0 ∙ same_front.at (k + j) (omega arith) ∙ sym (get_or-drop k input j 0) } in
      let f = refused_alike part all a (omega (arith, limit_small, read-long, length-drop k (take m input))) (omega (arith, limit_small, length-drop k input)) in
      refused k (take m input) (omega (arith, read-long)) _ f.0 f.1 o ∙ sym (refused k input (omega arith) _ f.0 f.2 o')

  long-check : (t : Terms) → check_input t (take m input) ≡ check_input t input
  unfolding check_input checked_for study
  long-check t = too_long 12 (omega arith) _ _

  long-reason : reason_input (take m input) ≡ reason_input input
  unfolding reason_input reasoned_for study
  long-reason = too_long 17 (omega arith) _ _

  long_standard : standard_of (take m input) ≡ standard_of input
  unfolding standard_of given
  long_standard = rw (le-ltb (length (take m input)) 17 (omega (arith, read-long)), le-ltb (length input) 17 (omega arith), be_alike same_front 1 16 (omega arith))

  long-arrange : (first last : ℕ) (t : Terms) → arrange_input first last t (take m input) ≡ arrange_input first last t input
  unfolding arrange_input arranged_for study
  long-arrange first last t = too_long 10 (omega arith) _ _

  long-add : add_input (take m input) ≡ add_input input
  unfolding add_input changed_for
  long-add = too_long 17 (omega arith) _ _

  long-withdraw : withdraw_input (take m input) ≡ withdraw_input input
  unfolding withdraw_input changed_for
  long-withdraw = too_long 5 (omega arith) _ _

  long-move : move_input (take m input) ≡ move_input input
  unfolding move_input changed_for
  long-move = too_long 7 (omega arith) _ _

  long-change : change_input (take m input) ≡ change_input input
  unfolding change_input
  long-change = rw (be_alike same_front 1 0 (omega arith), long-add, long-withdraw, long-move)

  long-distance : distance_input (take m input) ≡ distance_input input
  unfolding distance_input given
  long-distance = rw (ne_eqb (length (take m input)) 17 (λ e. omega (arith, read-long)), ne_eqb (length input) 17 (λ e. omega arith))

-- what is read of a long input is what is read of any
read_part : {A : Type 0} (m : ℕ) (f : List ℕ → A) → ((input : List ℕ) → m < length input → f (take m input) ≡ f input) → (input : List ℕ) → f (take m input) ≡ f input
read_part m f long input = elim (dec_lt m (length input)) [ yes h ↦ long input h | no n ↦ ap f (take_all m input (omega arith)) ]

module _ (m : ℕ) (g : enough ≤ m) where
  pub read-check : (t : Terms) (input : List ℕ) → check_input t (take m input) ≡ check_input t input
  read-check t = read_part m (check_input t) (λ input h. long-check m g input h t)

  pub read-reason : (input : List ℕ) → reason_input (take m input) ≡ reason_input input
  read-reason = read_part m reason_input (long-reason m g)

  pub read_standard : (input : List ℕ) → standard_of (take m input) ≡ standard_of input
  read_standard = read_part m standard_of (long_standard m g)

  pub read-arrange : (first last : ℕ) (t : Terms) (input : List ℕ) → arrange_input first last t (take m input) ≡ arrange_input first last t input
  read-arrange first last t = read_part m (arrange_input first last t) (λ input h. long-arrange m g input h first last t)

  pub read-change : (input : List ℕ) → change_input (take m input) ≡ change_input input
  read-change = read_part m change_input (long-change m g)

  pub read-distance : (input : List ℕ) → distance_input (take m input) ≡ distance_input input
  read-distance = read_part m distance_input (long-distance m g)
