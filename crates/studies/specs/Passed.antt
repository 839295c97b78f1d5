-- Inside: what a study that is asked begins with: the table, its terms and its place; or the refusal. Assumes nothing.
use Rattle.std.specs.Prelude.{◌≡◌, List, ℕ}
use Rattle.part73.specs.Standards.{chosen}
use Rattle.refusals.specs.declared.Fault.{Fault}
use Rattle.spacing.specs.declared.Place.{Place}
use Rattle.stations.specs.Image.{stations}
use Rattle.stations.specs.declared.Station.{Station}
use Rattle.marking.specs.Marks.{Asked}
use Rattle.survey.specs.Ways.{studied}
use Rattle.survey.specs.declared.Terms.{Terms}
use Rattle.desk.specs.Answers.{grant, deny}
use Rattle.studies.specs.Studies.{place_asked, channels_asked, terms_asked, study}
use Rattle.studies.specs.declared.Wanted.{Wanted}

-- table and question passed: what is granted hangs on the stations that are studied alone
pub record Asks (s : List ℕ) (w : Wanted) (i : List ℕ) (t : Terms) (p : Place) : Type 0 where
  pub image : i ≡ s
  pub terms : t ≡ terms_asked w
  pub place : p ≡ place_asked w
  pub asked : Asked (channels_asked w)
  pub granted : (numbers : (ℕ → ℕ → ℕ → ℕ) → List Station → List ℕ) → study s w numbers ≡ grant (numbers (chosen w.standard) (studied (terms_asked w) (stations s)))

-- the table or the question is refused, whatever would be granted
pub record Denied (s : List ℕ) (w : Wanted) (f : Fault) : Type 0 where
  pub denied : (numbers : (ℕ → ℕ → ℕ → ℕ) → List Station → List ℕ) → study s w numbers ≡ deny f
