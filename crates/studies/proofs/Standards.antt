-- 02, R-6: a study by another standard. By 1 it is the study that it was before there was a choice; and what is refused by 1 is
-- refused by 2. Assumes nothing.
use mathlib.Core.Path.{◌≡◌, refl}
use mathlib.Core.List.{List}
use Prim.Native.Nat.{ℕ}
use Rattle.ground.specs.Guard.{given}
use Rattle.part73.specs.TableA.{table_a}
use Rattle.part73.specs.Standards.{by_table_a, by_lesser, is_standard, chosen}
use Rattle.stations.specs.Image.{then, stations, judged}
use Rattle.stations.specs.declared.Station.{Station}
use Rattle.survey.specs.Ways.{looked, studied}
use Rattle.desk.specs.Answers.{Outcome, grant, on_table, on_asked}
use Rattle.desk.specs.Asked.{asked_fault}
use Rattle.studies.specs.Studies.{terms_asked, standard_fault, wanted_fault, aside_fault, study_fault, study}
use Rattle.studies.specs.declared.Wanted.{Wanted}

-- the same study by another standard
abbrev pub by : ℕ → Wanted → Wanted
by standard w =
    record { first = w.first; last = w.last; class = w.class; zone = w.zone; latitude = w.latitude; longitude = w.longitude; aside = w.aside; standard = standard }

-- the study as it was before there was a choice: refused with 13 to 17 and 23, and else granted are the numbers of the stations that
-- are studied
abbrev pub before : List ℕ → Wanted → (List Station → List ℕ) → Outcome
before s w numbers =
    on_table (judged s)
    (on_asked (then (asked_fault w.first w.last w.class w.zone w.latitude w.longitude) (aside_fault w.aside (stations s)))
    (grant (numbers (studied (terms_asked w) (stations s)))))

-- by 1 it is that, with the numbers by Table A
pub study_1 : (s : List ℕ) (w : Wanted) (numbers : (ℕ → ℕ → ℕ → ℕ) → List Station → List ℕ) → study s (by by_table_a w) numbers ≡ before s w (numbers table_a)
unfolding study study_fault wanted_fault standard_fault is_standard asked_fault studied looked chosen given
study_1 s w numbers = refl

-- nothing else is wrong with what is wanted by 2 than by 1
pub faults_alike : (ss : List Station) (w : Wanted) → study_fault ss (by by_table_a w) ≡ study_fault ss (by by_lesser w)
unfolding study_fault wanted_fault standard_fault is_standard given
faults_alike ss w = refl
