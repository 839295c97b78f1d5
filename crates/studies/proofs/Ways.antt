-- The three ways out of a study: the table is refused, what is wanted is refused, or the numbers are granted. Assumes nothing.
use Rattle.refusals.specs.Faults.{Verdict, Answer}
use Rattle.refusals.specs.declared.Fault.{Fault}
use Rattle.std.specs.Prelude.{Ok, Err}
use mathlib.Core.Path.{◌≡◌, refl, sym, ◌∙◌}
use mathlib.Core.List.{List}
use Prim.Native.Nat.{ℕ}
use native.Mathlib.Omega.{arith}
use Rattle.part73.specs.Standards.{chosen}
use Rattle.stations.specs.Image.{then, stations, judged, Accepted}
use Rattle.stations.specs.declared.Station.{Station}
use Rattle.stations.proofs.Stages.{then-sound, is_accepted}
use Rattle.survey.specs.Ways.{studied}
use Rattle.desk.specs.Answers.{grant, deny, on_table, on_asked, Answered}
use Rattle.desk.proofs.Answers.{denied}
use Rattle.desk.specs.Asked.{site_fault}
use Rattle.desk.proofs.Asked.{kind, site-sound}
use Rattle.spacing.specs.Reaching.{InRange}
use Rattle.marking.specs.Marks.{Asked}
use Rattle.studies.specs.Studies.{place_asked, channels_asked, terms_asked, standard_fault, wanted_fault, aside_fault, study_fault, study}
use Rattle.studies.specs.declared.Wanted.{Wanted}

module _ (s : List ℕ) (w : Wanted) where
  abbrev found : Verdict
  found = study_fault (stations s) w

  -- nothing is wrong with what passes: the class and site are in range, and the channels are new ones
  pub passed : found ≡ (Ok tt) → InRange (place_asked w) × Asked (channels_asked w)
  unfolding study_fault wanted_fault
  passed q =
      let v = (then-sound _ (aside_fault w.aside (stations s)) q).0 in
      let u = then-sound _ (then (standard_fault w.standard) (site_fault w.latitude w.longitude)) v in
      let k = kind w.first w.last w.class w.zone u.0 in (
        record { known = k.known; placed = site-sound w.latitude w.longitude (then-sound (standard_fault w.standard) _ u.1).1 },
        record { low = k.low; some = k.order; high = k.high },
      )

  module _ (numbers : (ℕ → ℕ → ℕ → ℕ) → List Station → List ℕ) where
    pub table_denied : (f : Fault) → judged s ≡ Err f → study s w numbers ≡ deny f
    unfolding study
    table_denied f e = rw e

    pub table_left : (entry : List ℕ) (j : Answer) (f : Fault) → j ≡ judged s → j ≡ Err f → Answered (study s w numbers) entry entry (Err f)
    table_left entry j f e q = rw (table_denied f (sym e ∙ q)) (denied f entry)

    pub wanted_denied : Accepted s → (f : Fault) → found ≡ Err f → study s w numbers ≡ deny f
    unfolding study
    wanted_denied e f q = rw (e, q)

    pub wanted_left : Accepted s → (entry : List ℕ) (f : Fault) → found ≡ Err f → Answered (study s w numbers) entry entry (Err f)
    wanted_left e entry f q = rw (wanted_denied e f q) (denied f entry)

    pub granted_on : Accepted s → found ≡ (Ok tt) → study s w numbers ≡ grant (numbers (chosen w.standard) (studied (terms_asked w) (stations s)))
    unfolding study
    granted_on e q = rw (e, q)

    -- and where they are granted, it was so
    pub granted_was : (vs : List ℕ) → study s w numbers ≡ grant vs → Accepted s × (found ≡ (Ok tt)) × (numbers (chosen w.standard) (studied (terms_asked w) (stations s)) ≡ vs)
    unfolding study
    granted_was vs h = go (judged s) refl found refl h
      where
        go : (j : Answer) → judged s ≡ j → (v : Verdict) → found ≡ v → on_table j (on_asked v (grant (numbers (chosen w.standard) (studied (terms_asked w) (stations s))))) ≡ grant vs → Accepted s × (found ≡ (Ok tt)) × (numbers (chosen w.standard) (studied (terms_asked w) (stations s)) ≡ vs)
        go (Ok n) e (Ok tt) q k = (is_accepted s n e, q, cc)
        go (Ok n) e (Err f) q k = let z : ◌≡◌ {A = ℕ} 0 1 = cc in absurd (omega arith)
        go (Err f) e v q k = let z : ◌≡◌ {A = ℕ} 0 1 = cc in absurd (omega arith)

    pub passed_on : {entry exit : List ℕ} {r : Answer} → Accepted s → found ≡ (Ok tt) → Answered (grant (numbers (chosen w.standard) (studied (terms_asked w) (stations s)))) entry exit r → Answered (study s w numbers) entry exit r
    passed_on e q a = rw (granted_on e q) a

  -- a refusal does not hang on what would be granted
  pub denied_alike : (numbers numbers' : (ℕ → ℕ → ℕ → ℕ) → List Station → List ℕ) (f : Fault) → study s w numbers ≡ deny f → study s w numbers' ≡ deny f
  unfolding study
  denied_alike numbers numbers' f h = go (judged s) found h
    where
      go : (j : Answer) (v : Verdict) → on_table j (on_asked v (grant (numbers (chosen w.standard) (studied (terms_asked w) (stations s))))) ≡ deny f → on_table j (on_asked v (grant (numbers' (chosen w.standard) (studied (terms_asked w) (stations s))))) ≡ deny f
      go (Ok n) (Ok tt) k = let z : ◌≡◌ {A = ℕ} 0 1 = cc in absurd (omega arith)
      go (Ok n) (Err g) k = k
      go (Err g) v k = k
