-- The ways through a change, and what each answers. Assumes nothing.
use Rattle.std.specs.Prelude.{Ok, Err, Some, None}
use mathlib.Core.Path.{◌≡◌, refl, sym, ap, ◌∙◌}
use mathlib.Core.Bool.{true, false, not}
use mathlib.Core.List.{List}
use Prim.Native.Nat.{ℕ}
use lib.Dec.{leb}
use lib.ListN.{length}
use borrow.Author.Tests.{eq-eqb, ne_eqb}
use Rattle.ground.specs.Guard.{given}
use Rattle.ground.specs.Lists.{some, first}
use Rattle.ground.proofs.Guards.{here, on}
use Rattle.refusals.specs.Faults.{Answer}
use Rattle.refusals.specs.declared.Fault.{Fault}
use Rattle.refusals.specs.declared.Fault.TheVariants.{AskedChannel, IdZero, IdPresent, Short, TableFull, IdAbsent, NotMovable}
use Rattle.versions.specs.Version.{limit}
use Rattle.stations.specs.Image.{station_at, stations, count, judged, Accepted}
use Rattle.stations.specs.Encode.{encode}
use Rattle.stations.specs.Lists.{has_id, with_id, movable, onto, insert, without, rechannel}
use Rattle.stations.specs.declared.Station.{Station}
use Rattle.stations.proofs.Ids.{with_none}
use Rattle.desk.specs.Answers.{grant, Answered}
use Rattle.desk.specs.Asked.{outside}
use Rattle.desk.proofs.Answers.{denied, table-refused, table-passed}
use Rattle.finding.specs.Asking.{found_at, first_of}
use Rattle.finding.specs.Conflicts.{conflicts}
use Rattle.changes.specs.Changes.{Change, add, withdraw, move, Decision, asked_of, entered, entering, decide, written, changed_for}
use Rattle.changes.specs.declared.Newcomer.{Newcomer}
use Rattle.changes.proofs.There.{is_there, is_absent, is_one, is_none, with_at}

-- ---- from a decision to the answer

module _ (s : List ℕ) (c : Change) where
  pub table_out : (entry : List ℕ) {f : Fault} → judged s ≡ Err f → Answered (changed_for s c) entry entry (Err f)
  unfolding changed_for
  table_out entry {f} e = table-refused _ entry (judged s) f e

  pub decided : {entry exit : List ℕ} {a : Answer} → Accepted s → Answered (written (decide (stations s) c)) entry exit a → Answered (changed_for s c) entry exit a
  unfolding changed_for
  decided e w = table-passed (judged s) (count s) e w

  pub refused_by : (entry : List ℕ) {f : Fault} → Accepted s → decide (stations s) c ≡ Err f → Answered (changed_for s c) entry entry (Err f)
  refused_by entry {f} e d = decided e (rw d (denied f entry))

  pub granted_by : {entry exit : List ℕ} {a : Answer} {rs : List Station} → Accepted s → decide (stations s) c ≡ Ok rs → Answered (grant (encode rs)) entry exit a → Answered (changed_for s c) entry exit a
  granted_by e d w = decided e (rw d w)

-- ---- Add

pub add-asked : (ss : List Station) (w : Newcomer) (f : Fault) → asked_of w ≡ Err f → decide ss (add w) ≡ Err f
unfolding decide
add-asked ss w f e = rw e

pub add-entering : (ss : List Station) (w : Newcomer) → asked_of w ≡ Ok tt → decide ss (add w) ≡ entering ss (entered w)
unfolding decide
add-entering ss w e = rw e

module _ (ss : List Station) (r : Station) where
  pub zero_id : r.id ≡ 0 → entering ss r ≡ Err IdZero
  zero_id e = sym (here _ _ _ (eq-eqb _ 0 e) refl)

  pub present-id : (r.id ≡ 0 → ⊥) → (p : ℕ) → found_at r.id ss ≡ Ok p → entering ss r ≡ Err (IdPresent p)
  present-id some_id p f = let t = is_there _ _ _ f in sym (on _ _ _ (ne_eqb _ 0 some_id) (here _ _ _ t.0 (ap (λ (k : ℕ). Err (IdPresent k)) (sym t.1))))

  module _ (some_id : r.id ≡ 0 → ⊥) (new-id : some (has_id r.id) ss ≡ false) where
    pub short_one : (q : ℕ) → first_of (conflicts r) ss ≡ Some q → entering ss r ≡ Err (Short q)
    short_one q f = let t = is_one _ _ _ f in sym (on _ _ _ (ne_eqb _ 0 some_id) (on _ _ _ new-id (here _ _ _ t.0 (ap (λ (k : ℕ). Err (Short k)) (sym t.1)))))

    module _ (clear : some (conflicts r) ss ≡ false) where
      pub full_table : leb limit (length ss) ≡ true → entering ss r ≡ Err TableFull
      full_table h = sym (on _ _ _ (ne_eqb _ 0 some_id) (on _ _ _ new-id (on _ _ _ clear (here _ _ _ h refl))))

      pub entered_at : leb limit (length ss) ≡ false → entering ss r ≡ Ok (insert r ss)
      entered_at h = sym (on _ _ _ (ne_eqb _ 0 some_id) (on _ _ _ new-id (on _ _ _ clear (on _ _ _ h refl))))

-- ---- Withdraw

module _ (ss : List Station) (id p : ℕ) where
  pub withdraw-absent : found_at id ss ≡ Err p → decide ss (withdraw id) ≡ Err IdAbsent
  unfolding decide
  withdraw-absent f = sym (here _ _ _ (ap not (is_absent _ _ _ f).0) refl)

  pub withdraw-present : found_at id ss ≡ Ok p → decide ss (withdraw id) ≡ Ok (without id ss)
  unfolding decide
  withdraw-present f = sym (on _ _ _ (ap not (is_there _ _ _ f).0) refl)

-- ---- Move

module _ (ss : List Station) (id channel : ℕ) where
  pub move-outside : outside channel ≡ true → decide ss (move id channel) ≡ Err AskedChannel
  unfolding decide
  move-outside h = sym (here _ _ _ h refl)

  module _ (inside : outside channel ≡ false) where
    pub move-absent : with_id id ss (Err IdAbsent) (λ r. given (not (movable r)) (Err (NotMovable (first (has_id id) ss))) (given (some (conflicts (onto channel r)) ss) (Err (Short (first (conflicts (onto channel r)) ss))) (Ok (rechannel id channel ss)))) ≡ Err IdAbsent → decide ss (move id channel) ≡ Err IdAbsent
    unfolding decide
    move-absent e = sym (on _ _ _ inside (sym e))

    module _ (x : Station) (at : (none : Decision) (one : Station → Decision) → with_id id ss none one ≡ one x) where
      pub move_fixed : (p : ℕ) → first (has_id id) ss ≡ p → movable x ≡ false → decide ss (move id channel) ≡ Err (NotMovable p)
      unfolding decide
      move_fixed p e h = sym (on _ _ _ inside (sym (at _ _ ∙ sym (here _ _ _ (ap not h) (ap (λ (k : ℕ). Err (NotMovable k)) (sym e))))))

      module _ (free : movable x ≡ true) where
        pub move-short : (q : ℕ) → q ≡ first (conflicts (onto channel x)) ss → some (conflicts (onto channel x)) ss ≡ true → decide ss (move id channel) ≡ Err (Short q)
        unfolding decide
        move-short q e h = sym (on _ _ _ inside (sym (at _ _ ∙ sym (on _ _ _ (ap not free) (here _ _ _ h (ap (λ (k : ℕ). Err (Short k)) e))))))

        pub move-granted : some (conflicts (onto channel x)) ss ≡ false → decide ss (move id channel) ≡ Ok (rechannel id channel ss)
        unfolding decide
        move-granted h = sym (on _ _ _ inside (sym (at _ _ ∙ sym (on _ _ _ (ap not free) (on _ _ _ h refl)))))

-- of the stations of a table, by what `find` and `first_conflict` answer
module _ (s : List ℕ) (id channel : ℕ) (inside : outside channel ≡ false) (p : ℕ) where
  pub move_absent_at : found_at id (stations s) ≡ Err p → decide (stations s) (move id channel) ≡ Err IdAbsent
  move_absent_at f = move-absent _ _ _ inside (with_none _ _ _ _ (is_absent _ _ _ f).0)

  module _ (e : Accepted s) (there : found_at id (stations s) ≡ Ok p) where
    pub move_fixed_at : movable (station_at s p) ≡ false → decide (stations s) (move id channel) ≡ Err (NotMovable p)
    move_fixed_at h = move_fixed _ _ _ inside _ (with_at s e _ _ there) p (is_there _ _ _ there).1 h

    module _ (free : movable (station_at s p) ≡ true) where
      pub move_short_at : (q : ℕ) → first_of (conflicts (onto channel (station_at s p))) (stations s) ≡ Some q → decide (stations s) (move id channel) ≡ Err (Short q)
      move_short_at q f = let t = is_one _ _ _ f in move-short _ _ _ inside _ (with_at s e _ _ there) free q (sym t.1) t.0

      pub move_granted_at : first_of (conflicts (onto channel (station_at s p))) (stations s) ≡ None → decide (stations s) (move id channel) ≡ Ok (rechannel id channel (stations s))
      move_granted_at f = move-granted _ _ _ inside _ (with_at s e _ _ there) free (is_none _ _ f)
