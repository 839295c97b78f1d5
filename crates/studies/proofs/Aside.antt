-- 02, R-1, in the owner's words: the answer is the one that the table without that record would give, and with the id 0 it is the
-- one that it was. Assumes nothing.
use Rattle.refusals.specs.Faults.{Verdict, Answer}
use Rattle.std.specs.Prelude.{Ok, Err}
use mathlib.Core.Path.{◌≡◌, refl}
use mathlib.Core.Bool.{true, not, and-false}
use mathlib.Core.List.{List}
use Prim.Native.Nat.{ℕ}
use lib.Dec.{eqb}
use Rattle.ground.specs.Guard.{given}
use Rattle.ground.specs.Lists.{some}
use Rattle.wire.specs.Be.{Bytes}
use Rattle.part73.specs.Standards.{chosen}
use Rattle.stations.specs.Image.{then, stations, judged}
use Rattle.stations.specs.Encode.{encode}
use Rattle.stations.specs.Lists.{has_id, without}
use Rattle.stations.specs.declared.Station.{Station}
use Rattle.stations.proofs.Parts.{valid_table, valid_without, valid_image}
use Rattle.survey.specs.Ways.{studied}
use Rattle.survey.proofs.Studied.{studied-without, studied_whole}
use Rattle.desk.specs.Answers.{grant, on_table, on_asked}
use Rattle.studies.specs.Studies.{terms_asked, wanted_fault, aside_fault, study_fault, study}
use Rattle.studies.specs.declared.Wanted.{Wanted}

-- nothing is wrong with the id 0, nor with one that stands in the table
pub none_aside : (ss : List Station) → aside_fault 0 ss ≡ (Ok tt)
unfolding aside_fault given
none_aside ss = refl

pub present_aside : (id : ℕ) (ss : List Station) → some (has_id id) ss ≡ true → aside_fault id ss ≡ (Ok tt)
unfolding aside_fault given
present_aside id ss h = rw (h, and-false (not (eqb id 0)))

-- the same study, with nobody left aside
abbrev pub whole : Wanted → Wanted
whole w =
    record { first = w.first; last = w.last; class = w.class; zone = w.zone; latitude = w.latitude; longitude = w.longitude; aside = 0; standard = w.standard }

-- where nothing is wrong with the id left aside, only 13 to 16, 26 and 17 are left
asked_only : (ss : List Station) (w : Wanted) → aside_fault w.aside ss ≡ (Ok tt) → study_fault ss w ≡ wanted_fault w
unfolding study_fault
asked_only ss w e = rw e (go (wanted_fault w))
  where
    go : (v : Verdict) → then v (Ok tt) ≡ v
    go (Ok _) = refl
    go (Err f) = refl

module _ (w : Wanted) (numbers : (ℕ → ℕ → ℕ → ℕ) → List Station → List ℕ) where
  -- with the id 0 every station is studied, and nothing but 13 to 16, 26 and 17 is refused
  pub study_whole : (s : List ℕ) → study s (whole w) numbers ≡ on_table (judged s) (on_asked (wanted_fault w) (grant (numbers (chosen w.standard) (stations s))))
  unfolding study wanted_fault
  study_whole s = rw (asked_only (stations s) (whole w) (none_aside (stations s))) (go (judged s) refl)
    where
      v : Verdict
      v = wanted_fault w

      go : (j : Answer) → judged s ≡ j → on_table j (on_asked v (grant (numbers (chosen w.standard) (studied (terms_asked (whole w)) (stations s))))) ≡ on_table j (on_asked v (grant (numbers (chosen w.standard) (stations s))))
      go (Err f) e = refl
      go (Ok n) e = rw (studied_whole s n e (terms_asked (whole w)) refl)

  -- with an id that stands in the table the outcome is that of the table without its record
  pub study-without : (s : List ℕ) → Bytes s → (n : ℕ) → judged s ≡ Ok n → some (has_id w.aside) (stations s) ≡ true → study s w numbers ≡ study (encode (without w.aside (stations s))) (whole w) numbers
  unfolding study
  study-without s b n e h =
      let i = valid_image _ (valid_without w.aside _ (valid_table s b n e)) in
      rw (e, asked_only (stations s) w (present_aside w.aside (stations s) h), studied-without (terms_asked w) (stations s), study_whole (encode (without w.aside (stations s))), i.0, i.1)
