-- 02, R-6: Check by another standard. By 1 it is what it was; and what it finds acceptable by 1 it finds acceptable by 2.
-- Assumes nothing.
use mathlib.Core.Path.{◌≡◌, refl, sym, ap, ◌∙◌}
use mathlib.Core.List.{List, [], ◌∷◌}
use Prim.Native.Nat.{ℕ, ◌<◌}
use native.Mathlib.Omega.{arith}
use Rattle.ground.specs.Lists.{◌∈◌}
use Rattle.ground.specs.Rows.{Row, flat}
use Rattle.part73.specs.TableA.{table_a}
use Rattle.part73.specs.Standards.{by_table_a, by_lesser, chosen}
use Rattle.spacing.specs.Pair.{Assignment}
use Rattle.spacing.proofs.Standards.{short_by_2}
use Rattle.stations.specs.Image.{stations, count}
use Rattle.stations.specs.declared.Station.{Station}
use Rattle.survey.specs.Ways.{as_it_stands, looked, studied}
use Rattle.survey.proofs.Studied.{studied-known}
use Rattle.desk.specs.Answers.{grant}
use Rattle.studies.specs.Studies.{terms_asked}
use Rattle.studies.proofs.Standards.{before, study_1, faults_alike}
use Rattle.studies.proofs.Ways.{passed, granted_on, granted_was}
use Rattle.checks.specs.Check.{asked, on_one, short_rows, rows_for, checked_for}
use Rattle.checks.specs.declared.Proposal.{Proposal}
use Rattle.checks.proofs.Meaning.{near-short, acceptable}

-- the same proposal by another standard
abbrev pub by : ℕ → Proposal → Proposal
by standard p =
    record { channel = p.channel; class = p.class; zone = p.zone; latitude = p.latitude; longitude = p.longitude; aside = p.aside; standard = standard }

-- by 1 it is what it was, with the rows by Table A
pub checked_1 : (s : List ℕ) (p : Proposal) → checked_for s (by by_table_a p) ≡ before s (on_one p) (rows_for (asked p) table_a)
unfolding checked_for
checked_1 s p = study_1 s (on_one p) (rows_for (asked p))

-- no numbers, no rows
no_rows : (rs : List Row) → flat rs ≡ [] → rs ≡ []
unfolding flat
no_rows [] e = refl
no_rows (r ∷ rs) e = let z : ◌≡◌ {A = ℕ} 0 1 = cc in absurd (omega arith)

-- nobody short by 1, nobody short by 2
none_by_2 : (p : Assignment) (ss : List Station) → p.class < 8 → ((x : Station) → x ∈ ss → x.class < 8) → short_rows (chosen by_table_a) p ss ≡ [] → short_rows (chosen by_lesser) p ss ≡ []
none_by_2 p ss mine theirs e =
    (acceptable (chosen by_lesser) p ss).1 (λ x m h.
    (acceptable (chosen by_table_a) p ss).0 e x m ((near-short (chosen by_table_a) p x).0 (short_by_2 p (as_it_stands x) mine (theirs x m) ((near-short (chosen by_lesser) p x).1 h))))

-- what is acceptable by 1 is acceptable by 2
pub acceptable_by_2 : (s : List ℕ) (p : Proposal) → checked_for s (by by_table_a p) ≡ grant [] → checked_for s (by by_lesser p) ≡ grant []
unfolding checked_for studied looked flat
acceptable_by_2 s p e =
    let w = on_one (by by_table_a p) in
    let g = granted_was s w (rows_for (asked p)) [] e in
    let ss = studied (terms_asked w) (stations s) in
    let mine = (passed s w g.1).0.known in
    let none = none_by_2 (asked p) ss mine (studied-known s (count s) g.0 (terms_asked w)) (no_rows _ g.2) in
    granted_on s (on_one (by by_lesser p)) (rows_for (asked p)) g.0 (sym (faults_alike (stations s) (on_one p)) ∙ g.1) ∙ ap (λ (rs : List Row). grant (flat rs)) none
