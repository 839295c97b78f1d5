-- Past the other refusals Add and Move are granted exactly when the station is short to no other record; 20 gives the first
-- that it is short to. Assumes nothing.

use Rattle.std.specs.Prelude.{Ok, Err}
use mathlib.Core.Path.{◌≡◌, sym, ◌∙◌}
use mathlib.Core.Bool.{true, false, not}
use mathlib.Core.Logic.{◌↔◌}
use mathlib.Core.List.{List, ◌∷◌}
use Prim.Native.Nat.{ℕ, ◌+◌, ◌≤◌, ◌<◌}
use native.Mathlib.Numerals.{add-one}
use native.Mathlib.Omega.{arith}
use native.Mathlib.Decide.{ℕ_discrete}
use lib.Dec.{leb}
use lib.ListN.{length, drop, get_or}
use lib.Seq.{drop-cons}
use borrow.Author.Tests.{ltb-true, ne_eqb, eq-eqb, eqb-false, not-true}
use Rattle.ground.specs.Guard.{given}
use Rattle.ground.specs.Lists.{◌∈◌, some, first}
use Rattle.ground.proofs.Guards.{guards, past, taken, and_was}
use Rattle.ground.proofs.Cases.{either}
use Rattle.ground.proofs.Positions.{none_in}
use Rattle.ground.proofs.Firsts.{first_found, first_past, some_first}
use Rattle.refusals.specs.Faults.{refusal, Verdict}
use Rattle.refusals.specs.declared.Fault.{Fault}
use Rattle.refusals.specs.declared.Fault.TheVariants.{AskedChannel, IdZero, IdPresent, Short, TableFull, IdAbsent, NotMovable}
use Rattle.versions.specs.Version.{limit}
use Rattle.stations.specs.Lists.{has_id, onto, insert, without, rechannel, Apart}
use Rattle.stations.specs.declared.Station.{Station}
use Rattle.stations.proofs.Ids.{Ascends, with_one, with_found, one_id}
use Rattle.stations.proofs.Found.{Found, sound, fault}
use Rattle.stations.proofs.Changed.{without_none, in_without}
use Rattle.desk.proofs.Asked.{found-asked}
use Rattle.finding.specs.Conflicts.{short_to, conflicts}
use Rattle.changes.specs.Changes.{add, move, Decision, on_verdict, entered, decide}
use Rattle.changes.specs.declared.Newcomer.{Newcomer}
use Rattle.changes.proofs.Grants.{denied, AddPasses, added, MovePasses, moved}

-- ---- no other record conflicts

module _ (r x : Station) where
  another : conflicts r x ≡ true → (x.id ≡ r.id → ⊥) × (short_to r x ≡ true)
  unfolding conflicts
  another e =
      let w = and_was (not (has_id r.id x)) (short_to r x) e in
      (eqb-false x.id r.id (not-true _ w.0), w.1)

  conflicts_other : (x.id ≡ r.id → ⊥) → conflicts r x ≡ short_to r x
  unfolding conflicts
  conflicts_other ne = rw (ne_eqb x.id r.id ne)

  conflicts_own : x.id ≡ r.id → conflicts r x ≡ false
  unfolding conflicts
  conflicts_own e = rw (eq-eqb x.id r.id e)

-- nobody stands in the way exactly when the station is apart from all that have another id
clear_others : (r : Station) (ss : List Station) → (some (conflicts r) ss ≡ false) ↔ Apart short_to r (without r.id ss)
unfolding Apart
clear_others r ss =
    let k = none_in (conflicts r) ss in (
      λ e x m. let o = (in_without r.id ss).0 m in sym (conflicts_other r x o.1) ∙ k.0 e x o.0,
      λ a. k.1 (λ x m. go x (ℕ_discrete x.id r.id) (λ ne. a x ((in_without r.id ss).1 (m, ne)))),
    )
  where
    go : (x : Station) → Dec (x.id ≡ r.id) → ((x.id ≡ r.id → ⊥) → short_to r x ≡ false) → conflicts r x ≡ false
    go x (yes e) a = conflicts_own r x e
    go x (no ne) a = conflicts_other r x ne ∙ a ne

-- of a list without the id
clear-new : (r : Station) (ss : List Station) → some (has_id r.id) ss ≡ false → (some (conflicts r) ss ≡ false) ↔ Apart short_to r ss
clear-new r ss n = rw (without_none r.id ss n) at (clear_others r ss)

-- ---- granted exactly when there is none

pub add_exactly : (ss : List Station) (w : Newcomer) → AddPasses ss w → (decide ss (add w) ≡ Ok (insert (entered w) ss)) ↔ Apart short_to (entered w) ss
unfolding decide
add_exactly ss w p =
    let k = clear-new (entered w) ss p.new in
    let counts : w.id ≡ 0 → ⊥ = λ z. omega (arith, p.counts) in
    let room = p.room in
    let new = p.new in (
      λ e. k.0 (added ss w _ e).clear,
      λ a. let clear = k.1 a in rw p.asked (sym (search guards depth 10)),
    )

-- a granted newcomer is apart from every record
pub add_apart : (ss : List Station) (w : Newcomer) (rs : List Station) → decide ss (add w) ≡ Ok rs → Apart short_to (entered w) ss
add_apart ss w rs e = let a = added ss w rs e in (clear-new (entered w) ss a.passes.new).0 a.clear

module _ (ss : List Station) (g : Ascends ss) (id channel : ℕ) where
  clear-moved : (x : Station) → x.id ≡ id → (some (conflicts (onto channel x)) ss ≡ false) ↔ Apart short_to (onto channel x) (without id ss)
  clear-moved x own = rw (← own) (clear_others (onto channel x) ss)

  move-granted : (x : Station) → MovePasses ss id channel x → some (conflicts (onto channel x)) ss ≡ false → decide ss (move id channel) ≡ Ok (rechannel id channel ss)
  unfolding decide
  move-granted x p clear =
      let low = p.low in
      let high = p.high in
      let free = p.free in
      rw (with_one id _ _ x ss g p.own p.held) (sym (search guards depth 12))

  -- a granted station is apart from every other record
  pub move-apart : (rs : List Station) → decide ss (move id channel) ≡ Ok rs → (x : Station) × MovePasses ss id channel x × Apart short_to (onto channel x) (without id ss)
  move-apart rs e = let a = moved ss id channel rs e in (a.from, a.passes, (clear-moved a.from a.passes.own).0 a.clear)

  pub move_exactly : (x : Station) → MovePasses ss id channel x → (decide ss (move id channel) ≡ Ok (rechannel id channel ss)) ↔ Apart short_to (onto channel x) (without id ss)
  move_exactly x p =
      let k = clear-moved x p.own in (
        λ e.
            let m = move-apart _ e in
            let q = one_id id m.0 x ss g m.1.own p.own m.1.held p.held in
            rw q at m.2,
        λ a. move-granted x p (k.1 a),
      )

-- ---- the first that it is short to

-- the record at i is another, the station is short to it, and to none before it but its own
pub record FirstShort (r : Station) (ss : List Station) (i : ℕ) : Type 0 where
  pub within : i < length ss
  pub at : Station
  pub is : drop i ss ≡ at ∷ drop (i + 1) ss
  pub another : at.id ≡ r.id → ⊥
  pub short : short_to r at ≡ true
  pub before : (j : ℕ) (y : Station) (rest : List Station) → j < i → drop j ss ≡ y ∷ rest → (y.id ≡ r.id → ⊥) → short_to r y ≡ false

first_short : (r : Station) (ss : List Station) (i : ℕ) → some (conflicts r) ss ≡ true → first (conflicts r) ss ≡ i → FirstShort r ss i
first_short r ss i h e =
    let k = first (conflicts r) ss in
    let l : k < length ss = ltb-true k (length ss) (sym (some_first (conflicts r) ss) ∙ h) in
    let x = get_or ss k r in
    let q : drop k ss ≡ x ∷ drop (k + 1) ss = rw (add-one, drop-cons ss k r) in
    let a = another r x (first_found (conflicts r) ss x _ q) in
    rw (← e)
    (record {
      within = l;
      at = x;
      is = q;
      another = a.0;
      short = a.1;
      before = λ j y rest m d ne. sym (conflicts_other r y ne) ∙ first_past (conflicts r) ss j y rest d m;
    })

numbers : {f g : Fault} → ◌≡◌ {A = Decision} (Err f) (Err g) → (refusal f).number ≡ (refusal g).number
numbers e = cc

extras : {f g : Fault} → ◌≡◌ {A = Decision} (Err f) (Err g) → (refusal f).extra ≡ (refusal g).extra
extras e = cc

granted : (rs : List Station) (f : Fault) → ◌≡◌ {A = Decision} (Ok rs) (Err f) → ⊥
granted rs f e = denied f rs (sym e)

-- what is asked for is refused with a lower number
passed-low : {n : ℕ} {v : Verdict} (d : Decision) (f : Fault) → Found n v → n ≤ (refusal f).number → on_verdict v d ≡ Err f → d ≡ Err f
passed-low d f sound h e = e
passed-low d f (fault g l) h e = absurd (omega (arith, numbers e))

-- two refusals with other numbers
unlike : (f g : Fault) → ((refusal f).number ≡ (refusal g).number → ⊥) → ◌≡◌ {A = Decision} (Err f) (Err g) → ⊥
unlike f g ne e = ne (numbers e)

-- 20 of Add
pub add-short : (ss : List Station) (w : Newcomer) (i : ℕ) → decide ss (add w) ≡ Err (Short i) → FirstShort (entered w) ss i
unfolding decide
add-short ss w i e =
    let v = passed-low _ (Short i) (found-asked 18 (omega arith) _ _ _ _ _ _) (omega arith) e in
    let a = past _ _ _ _ v (unlike IdZero (Short i) (λ z. omega arith)) in
    let b = past _ _ _ _ a.1 (unlike (IdPresent (first (has_id w.id) ss)) (Short i) (λ z. omega arith)) in
    let full : given (leb limit (length ss)) (Err TableFull) (Ok (insert (entered w) ss)) ≡ Err (Short i) → ⊥ =
    either (λ (d : Decision). d ≡ Err (Short i) → ⊥) _ _ _ (λ _. unlike TableFull (Short i) (λ z. omega arith)) (λ _. granted _ _) in
    let c = taken _ _ _ _ b.1 full in
    first_short (entered w) ss i c.0 (extras c.1)

-- 20 of Move
pub move-short : (ss : List Station) (id channel i : ℕ) → decide ss (move id channel) ≡ Err (Short i) → (x : Station) × (x.id ≡ id) × (x ∈ ss) × FirstShort (onto channel x) ss i
unfolding decide
move-short ss id channel i e =
    let a = past _ _ _ _ e (unlike AskedChannel (Short i) (λ z. omega arith)) in
    let f = with_found id _ _ ss (Err (Short i)) a.1 (unlike IdAbsent (Short i) (λ z. omega arith)) in
    let b = past _ _ _ _ f.3 (unlike (NotMovable (first (has_id id) ss)) (Short i) (λ z. omega arith)) in
    let c = taken _ _ _ _ b.1 (granted _ _) in
    (f.0, f.1, f.2, first_short (onto channel f.0) ss i c.0 (extras c.1))
