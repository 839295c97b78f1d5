-- What Check answers: exactly the short stations, each once, in table order, with its D and R; and nothing is left open.
-- Assumes nothing.
use Rattle.refusals.specs.Faults.{Answer}
use Rattle.std.specs.Prelude.{Ok}
use mathlib.Core.Path.{◌≡◌, refl}
use mathlib.Core.Logic.{◌↔◌}
use mathlib.Core.Bool.{true}
use mathlib.Core.List.Memᴰ
use mathlib.Core.List.{List, [], ◌∷◌, map}
use Prim.Native.Nat.{ℕ}
use borrow.Author.Tests.{ltb-true, lt-ltb}
use Rattle.ground.specs.Lists.{◌∈◌, keep}
use Rattle.ground.specs.Rows.{Row, flat}
use Rattle.ground.proofs.Order.{in_keep, in_map, Ascending, By, ascending_keep, ascending_map, strict_by, one_ascending}
use Rattle.part73.specs.Standards.{chosen}
use Rattle.spacing.specs.Pair.{Assignment, short_by}
use Rattle.stations.specs.Image.{stations, count, Accepted}
use Rattle.stations.specs.declared.Station.{Station}
use Rattle.survey.specs.Ways.{near, studied}
use Rattle.survey.proofs.Studied.{studied_ascend}
use Rattle.desk.specs.Answers.{grant, Answered}
use Rattle.desk.proofs.Answers.{one_answer}
use Rattle.studies.specs.Studies.{terms_asked, study_fault}
use Rattle.studies.proofs.Ways.{granted_on}
use Rattle.checks.specs.Check.{asked, on_one, row_of, short_rows, rows_for, checked_for}
use Rattle.checks.specs.Meaning.{Short, ShortRow, Before}
use Rattle.checks.specs.declared.Proposal.{Proposal}

module _ (km : ℕ → ℕ → ℕ → ℕ) (p : Assignment) where
  -- the test and its meaning
  pub near-short : (r : Station) → (near km p r ≡ true) ↔ Short km p r
  unfolding short_by
  near-short r = (λ e. ltb-true _ _ e, λ h. lt-ltb _ _ h)

  module _ (ss : List Station) where
    -- a row stands there exactly when it is that of a short station
    pub short-listed : (x : Row) → (x ∈ short_rows km p ss) ↔ ShortRow km p ss x
    unfolding short_rows
    short-listed x = (to, from)
      where
        to : x ∈ map (row_of km p) (keep (near km p) ss) → ShortRow km p ss x
        to m =
            let y = (in_map (row_of km p) _).0 m in
            let k = (in_keep (near km p) ss).0 y.1 in
            record { station = y.0; stands = k.0; short = (near-short y.0).0 k.1; is = y.2 }

        from : ShortRow km p ss x → x ∈ map (row_of km p) (keep (near km p) ss)
        from h = (in_map (row_of km p) _).1 (h.station, (in_keep (near km p) ss).1 (h.stands, (near-short h.station).1 h.short), h.is)

    -- no short station means acceptable
    pub acceptable : (short_rows km p ss ≡ []) ↔ ((r : Station) → r ∈ ss → Short km p r → ⊥)
    acceptable = (none, empty (short_rows km p ss) (λ x m. (short-listed x).0 m))
      where
        none : short_rows km p ss ≡ [] → (r : Station) → r ∈ ss → Short km p r → ⊥
        none e r m h = Memᴰ.not-nil (rw e at ((short-listed (row_of km p r)).1 (record { station = r; stands = m; short = h; is = refl })))

        empty : (l : List Row) → ((x : Row) → x ∈ l → ShortRow km p ss x) → ((r : Station) → r ∈ ss → Short km p r → ⊥) → l ≡ []
        empty [] f h = refl
        empty (x ∷ l) f h = let w = f x (Memᴰ.head refl) in absurd (h w.station w.stands w.short)

    module _ (ids : Ascending (By (λ r. r.id)) ss) where
      -- the ids ascend strictly, so each stands there once, in table order
      pub rows_ascend : Ascending Before (short_rows km p ss)
      unfolding short_rows row_of
      rows_ascend = ascending_map (row_of km p) (keep (near km p) ss) (ascending_keep (near km p) ss ids) (λ x y a b l. l)

      -- there is only one such list
      pub only_list : (l : List Row) → Ascending Before l → ((x : Row) → (x ∈ l) ↔ ShortRow km p ss x) → l ≡ short_rows km p ss
      only_list l a f =
          one_ascending (strict_by (λ (x : Row). x.a)) l (short_rows km p ss) a rows_ascend (λ x. (λ m. (short-listed x).1 ((f x).0 m), λ m. (f x).1 ((short-listed x).0 m)))

-- what is granted to a proposal that passes its checks: the one list of the rows of its short stations by the chosen table, of those
-- that are studied
pub granted : (s : List ℕ) (p : Proposal) → Accepted s → study_fault (stations s) (on_one p) ≡ (Ok tt)
    → (l : List Row) → Ascending Before l → ((x : Row) → (x ∈ l) ↔ ShortRow (chosen p.standard) (asked p) (studied (terms_asked (on_one p)) (stations s)) x) → checked_for s p ≡ grant (flat l)
unfolding checked_for
granted s p e q l a h =
    let t = terms_asked (on_one p) in
    rw (only_list (chosen p.standard) (asked p) (studied t (stations s)) (studied_ascend s (count s) e t) l a h) (granted_on s (on_one p) (rows_for (asked p)) e q)

-- two results that meet the promise are equal
pub one_check : (s : List ℕ) (p : Proposal) {entry exit exit' : List ℕ} {r r' : Answer} → Answered (checked_for s p) entry exit r → Answered (checked_for s p) entry exit' r' → (exit ≡ exit') × (r ≡ r')
one_check s p = one_answer
