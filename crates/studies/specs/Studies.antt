-- 02, R-1, R-6: a study, that is, a question about a table on terms of its own. Assumes nothing.
use Rattle.std.specs.Prelude.{not, ◌&&◌, List, ℕ, eqb, Ok}
use Rattle.ground.specs.Guard.{given}
use Rattle.ground.specs.Lists.{some}
use Rattle.part73.specs.Standards.{is_standard, chosen}
use Rattle.refusals.specs.Faults.{Verdict}
use Rattle.refusals.specs.declared.Fault.TheVariants.{IdAbsent, StandardUnknown}
use Rattle.spacing.specs.Pair.{Assignment, sited}
use Rattle.spacing.specs.declared.Place.{Place}
use Rattle.stations.specs.Image.{faulty, then, stations, judged}
use Rattle.stations.specs.Lists.{has_id}
use Rattle.stations.specs.declared.Station.{Station}
use Rattle.survey.specs.Ways.{studied}
use Rattle.marking.specs.declared.Channels.{Channels}
use Rattle.survey.specs.declared.Terms.{Terms}
use Rattle.desk.specs.Answers.{Outcome, grant, on_table, on_asked}
use Rattle.desk.specs.Asked.{kind_fault, site_fault}
use Rattle.studies.specs.declared.Wanted.{Wanted}

-- ---- what is wanted

-- the new station's class and site, and the station on each channel
abbrev pub place_asked : Wanted → Place
place_asked w = record { class = w.class; latitude = w.latitude; longitude = w.longitude }

abbrev pub asked : Wanted → ℕ → Assignment
asked w = sited (place_asked w)

-- the new channels
abbrev pub channels_asked : Wanted → Channels
channels_asked w = record { first = w.first; last = w.last }

-- the terms
abbrev pub terms_asked : Wanted → Terms
terms_asked w = record { aside = w.aside; standard = w.standard }

-- ---- what is wrong with it

-- 26 for a standard not 1 or 2
unfoldable pub standard_fault : ℕ → Verdict
standard_fault standard = given (not (is_standard standard)) (faulty StandardUnknown) (Ok tt)

-- whatever the table: the first that applies of 13 to 16, 26 and 17
unfoldable pub wanted_fault : Wanted → Verdict
wanted_fault w =
    then (kind_fault w.first w.last w.class w.zone)
    (then (standard_fault w.standard)
    (site_fault w.latitude w.longitude))

-- 23 if a nonzero id is absent
unfoldable pub aside_fault : ℕ → List Station → Verdict
aside_fault id ss = given (not (eqb id 0) && not (some (has_id id) ss)) (faulty IdAbsent) (Ok tt)

-- the first that applies of 13 to 16, 26, 17 and 23
unfoldable pub study_fault : List Station → Wanted → Verdict
study_fault ss w = then (wanted_fault w) (aside_fault w.aside ss)

-- ---- the outcome

-- the table is judged whole, then what is wanted; granted are the numbers, by the chosen table of separations, of the stations that
-- are studied
unfoldable pub study : List ℕ → Wanted → ((ℕ → ℕ → ℕ → ℕ) → List Station → List ℕ) → Outcome
study s w numbers =
    on_table (judged s)
    (on_asked (study_fault (stations s) w)
    (grant (numbers (chosen w.standard) (studied (terms_asked w) (stations s)))))
