-- 02, R-2, in the owner's words: when "clear" is said, which station is named and with what, and that nothing is left open.
-- Assumes nothing.
use Rattle.refusals.specs.declared.Fault.{Fault}
use Rattle.std.specs.Prelude.{Ok, Err, Some, None}
use mathlib.Core.Path.{◌≡◌, refl, sym, ap, ◌∙◌}
use mathlib.Core.Logic.{◌↔◌, ◌⊎◌, inl, inr}
use mathlib.Core.List.Memᴰ
use mathlib.Core.List.{List, [], ◌∷◌}
use Prim.Native.Nat.{ℕ, ◌<◌}
use native.Mathlib.Omega.{arith}
use Rattle.ground.specs.Lists.{◌∈◌}
use Rattle.ground.specs.Rows.{Row, flat}
use Rattle.ground.proofs.Positions.{in_at}
use Rattle.part73.specs.Separations.{Separations}
use Rattle.part73.specs.Standards.{chosen}
use Rattle.part73.proofs.Chosen.{chosen-table}
use Rattle.spacing.specs.Pair.{Assignment, separation, column_for}
use Rattle.spacing.proofs.Rule.{for_most}
use Rattle.stations.specs.Image.{station_at, stations, count, Accepted}
use Rattle.stations.specs.Encode.{record_of}
use Rattle.stations.specs.declared.Station.{Station}
use Rattle.stations.proofs.Whole.{whole, next}
use Rattle.stations.proofs.Places.{ids_ascend}
use Rattle.stations.proofs.Ids.{Ascends, one_id}
use Rattle.survey.proofs.Studied.{studied_ascend}
use Rattle.survey.proofs.Records.{known_at}
use Rattle.desk.specs.Answers.{Outcome, grant, deny}
use Rattle.studies.specs.Studies.{terms_asked, study_fault, study}
use Rattle.studies.proofs.Ways.{passed, granted_on, granted_was, denied_alike}
use Rattle.neighbours.specs.Neighbours.{neighbour_of}
use Rattle.neighbours.specs.declared.Neighbour.{Neighbour}
use Rattle.checks.specs.Check.{asked, on_one, row_of, short_rows, rows_for, checked_for}
use Rattle.checks.specs.Meaning.{Short}
use Rattle.checks.specs.declared.Proposal.{Proposal}
use Rattle.checks.proofs.Meaning.{short-listed}
use Rattle.reasons.specs.Reason.{Why, reason_for, reasoned_for, outcome_of, position_in, part_of, Reasoned}
use Rattle.reasons.specs.Meaning.{Named, studied_for, Explains}
use Rattle.reasons.proofs.Reasons.{Nobody, Somebody, told, reason_one, never_empty, neighbour_in, blocking, stands-there, names}
use Rattle.reasons.proofs.Part.{stands_at, record_bytes}

-- a list with a row has numbers
some_rows : {x : Row} (rs : List Row) → x ∈ rs → flat rs ≡ [] → ⊥
unfolding flat
some_rows [] m e = Memᴰ.not-nil m
some_rows (r ∷ rs) m e = let z : ◌≡◌ {A = ℕ} 0 1 = cc in omega arith

-- the answer that tells an outcome
answer_in : Outcome → Why
answer_in (grant []) = Ok None
answer_in (grant (v ∷ vs)) = Ok (Some (neighbour_in (v ∷ vs)))
answer_in (deny f) = Err f

-- one outcome is told by one answer
one_answer : (a b : Why) → outcome_of a ≡ outcome_of b → a ≡ b
unfolding answer_in
one_answer a b e = sym (back a) ∙ (ap answer_in e ∙ back b)
  where
    back : (w : Why) → answer_in (outcome_of w) ≡ w
    back (Ok None) = refl
    back (Ok (Some n)) = refl
    back (Err f) = refl

-- to a short station a column applies
applies : {km : ℕ → ℕ → ℕ → ℕ} → Separations km → (p : Assignment) (r : Station) → p.class < 8 → r.class < 8 → Short km p r → column_for p.channel r.channel < 4
unfolding separation
applies {km} table p r a b h =
    for_most p.channel r.channel (λ q. let z : km p.class r.class (column_for p.channel r.channel) ≡ 0 = rw q (table.ends p.class r.class a b) in omega (arith, h, z))

-- ---- beside Check

module _ (p : Assignment) (km : ℕ → ℕ → ℕ → ℕ) (ss : List Station) where
  -- the row of the station that is named is one of Check's
  pub named-listed : (r : Station) → Named km p ss r → row_of km p r ∈ short_rows km p ss
  named-listed r n = (short-listed km p ss (row_of km p r)).1 (record { station = r; stands = n.stands; short = n.short; is = refl })

  none_listed : Ascends ss → (reason_for p km ss ≡ []) ↔ (rows_for p km ss ≡ [])
  unfolding short_rows flat
  none_listed ids = (to (told p km ss ids), from (told p km ss ids))
    where
      to : Nobody p km ss ⊎ Somebody p km ss → reason_for p km ss ≡ [] → rows_for p km ss ≡ []
      to (inl w) e = rw w.free
      to (inr w) e = absurd (never_empty _ (sym e ∙ w.numbers))

      from : Nobody p km ss ⊎ Somebody p km ss → rows_for p km ss ≡ [] → reason_for p km ss ≡ []
      from (inl w) e = w.numbers
      from (inr w) e = absurd (some_rows (short_rows km p ss) (named-listed w.who w.named) e)

module _ (s : List ℕ) (p : Proposal) where
  -- "clear" is said exactly when Check, asked the same, lists nothing
  pub clear_exactly : (outcome_of (Ok None) ≡ reasoned_for s p) ↔ (checked_for s p ≡ grant [])
  unfolding reasoned_for checked_for
  clear_exactly = (to, from)
    where
      to : grant [] ≡ study s (on_one p) (reason_for (asked p)) → study s (on_one p) (rows_for (asked p)) ≡ grant []
      to e =
          let g = granted_was s (on_one p) (reason_for (asked p)) [] (sym e) in
          granted_on s (on_one p) (rows_for (asked p)) g.0 g.1 ∙ ap grant ((none_listed (asked p) (chosen p.standard) (studied_for s p) (studied_ascend s (count s) g.0 (terms_asked (on_one p)))).0 g.2)

      from : study s (on_one p) (rows_for (asked p)) ≡ grant [] → grant [] ≡ study s (on_one p) (reason_for (asked p))
      from e =
          let g = granted_was s (on_one p) (rows_for (asked p)) [] e in
          sym (granted_on s (on_one p) (reason_for (asked p)) g.0 g.1 ∙ ap grant ((none_listed (asked p) (chosen p.standard) (studied_for s p) (studied_ascend s (count s) g.0 (terms_asked (on_one p)))).1 g.2))

  -- and a refusal is given exactly when Check refuses so, its room left aside
  pub refused_alike : (f : Fault) → (outcome_of (Err f) ≡ reasoned_for s p) ↔ (checked_for s p ≡ deny f)
  unfolding reasoned_for checked_for
  refused_alike f = (λ e. denied_alike s (on_one p) (reason_for (asked p)) (rows_for (asked p)) f (sym e), λ e. sym (denied_alike s (on_one p) (rows_for (asked p)) (reason_for (asked p)) f e))

  -- ---- the station that is named

  -- there is one answer: where nothing is wrong, any station with these properties is the one that is told
  pub only_reason : Accepted s → study_fault (stations s) (on_one p) ≡ (Ok tt) → (r : Station) → Named (chosen p.standard) (asked p) (studied_for s p) r → reasoned_for s p ≡ outcome_of (Ok (Some (neighbour_of (chosen p.standard) (asked p) r)))
  unfolding reasoned_for
  only_reason e q r n =
      granted_on s (on_one p) (reason_for (asked p)) e q ∙ ap grant (reason_one (asked p) (chosen p.standard) (studied_for s p) (studied_ascend s (count s) e (terms_asked (on_one p))) r n)

  -- what is said with "blocked", and the part beside it
  pub explained : (n : Neighbour) (part : List ℕ) → Reasoned s p (Ok (Some n)) part → Explains s p n part
  unfolding row_of
  explained n part w =
      let b = blocking s p n w.said in
      let e = b.accepted in
      let stands = names s p (Ok (Some n)) w.said in
      let i = position_in s n.id in
      let at = stands_at s n.id stands in
      let there : station_at s i ≡ b.who =
      one_id n.id (station_at s i) b.who (stations s) (ids_ascend s (count s) e) at.1 (ap (λ (x : Neighbour). x.id) (sym b.is)) (in_at (stations s) i _ (next (whole s (count s) e) i at.0)) (stands-there s p b.named.stands) in
      record {
        who = b.who;
        named = b.named;
        is = b.is;
        one_of_four = rw b.is (applies (chosen-table p.standard) (asked p) b.who (passed s (on_one p) b.sound).0.known (rw there at (known_at s e i at.0).placed.known) b.named.short);
        listed = rw b.is (named-listed (asked p) (chosen p.standard) (studied_for s p) b.who b.named);
        position = i;
        within = at.0;
        there = there;
        lies = w.handed;
        encodes = λ bytes. w.handed ∙ (record_bytes s bytes e i at.0 ∙ ap record_of there);
      }

-- two answers that meet the promise are equal, and so are the parts beside them
pub one_reason : (s : List ℕ) (p : Proposal) {answer answer' : Why} {part part' : List ℕ} → Reasoned s p answer part → Reasoned s p answer' part' → (answer ≡ answer') × (part ≡ part')
one_reason s p {answer} {answer'} w w' =
    let e = one_answer answer answer' (w.said ∙ sym w'.said) in
    (e, w.handed ∙ (ap (part_of s) e ∙ sym w'.handed))
