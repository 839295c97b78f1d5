-- 02, R-6: Arrange by another standard. By 1 it is what it was; a row that moves nobody by 1 stands by 2; and a row that moves
-- somebody need not, since 2 may free the channel. Assumes nothing.
use Rattle.std.specs.Prelude.{Ok}
use mathlib.Core.Path.{◌≡◌, refl, ap}
use mathlib.Core.Bool.{not, ◌&&◌}
use mathlib.Core.List.{List, [], ◌∷◌}
use Prim.Native.Nat.{ℕ}
use native.Mathlib.Omega.{arith}
use lib.Dec.{T}
use lib.IntN.{pos}
use Rattle.ground.specs.Guard.{given}
use Rattle.ground.specs.Lists.{◌∈◌, keep, every}
use Rattle.ground.specs.Rows.{Row, row, flat}
use Rattle.distance.specs.Distance.{t, series, c1, c2, c3, c4, c5, P, Q, lon_gap, NS, EW, S, root, D}
use Rattle.part73.specs.Classes.{A}
use Rattle.part73.specs.Columns.{gap, column}
use Rattle.part73.specs.TableA.{relations, relation, table_a}
use Rattle.part73.specs.Lesser.{lesser_relations, lesser}
use Rattle.part73.specs.Standards.{by_table_a, by_lesser, chosen}
use Rattle.spacing.specs.Pair.{Assignment, assignment, exempt, column_for, separation, square_of, distance_of, short_by}
use Rattle.spacing.proofs.Standards.{spaced_by_1}
use Rattle.stations.specs.Image.{stations, count, Accepted}
use Rattle.stations.specs.Lists.{movable, without}
use Rattle.stations.specs.declared.Station.{Station}
use Rattle.survey.specs.Ways.{as_it_stands, looked, studied, clear}
use Rattle.survey.proofs.Studied.{studied-known}
use Rattle.desk.specs.Answers.{grant}
use Rattle.studies.specs.Studies.{asked, terms_asked, study_fault}
use Rattle.studies.specs.declared.Wanted.{Wanted}
use Rattle.studies.proofs.Standards.{by, before, study_1}
use Rattle.studies.proofs.Ways.{passed, granted_on}
use Rattle.arrangements.specs.Arrange.{allowed, arrangements, rows_for, arranged_for}
use Rattle.arrangements.specs.Meaning.{Clear, Arrangement, unmoved, moving}
use Rattle.arrangements.proofs.Meaning.{arrangement_listed}

-- by 1 it is what it was, with the rows by Table A
pub arranged_1 : (s : List ℕ) (w : Wanted) → arranged_for s (by by_table_a w) ≡ before s w (rows_for (asked w) w.first w.last table_a)
unfolding arranged_for
arranged_1 s w = study_1 s w (rows_for (asked w) w.first w.last)

-- the rows by a standard, which are granted where nothing is wrong
abbrev pub rows_by : ℕ → List ℕ → Wanted → List Row
rows_by standard s w = arrangements (chosen standard) (asked w) (studied (terms_asked (by standard w)) (stations s)) w.first w.last

pub granted_rows : (standard : ℕ) (s : List ℕ) (w : Wanted) → Accepted s → study_fault (stations s) (by standard w) ≡ (Ok tt) → arranged_for s (by standard w) ≡ grant (flat (rows_by standard s w))
unfolding arranged_for
granted_rows standard s w e q = granted_on s (by standard w) (rows_for (asked w) w.first w.last) e q

-- a channel that is clear by 1 is clear by 2
clear_by_2 : (s : List ℕ) (w : Wanted) → Accepted s → study_fault (stations s) (by by_table_a w) ≡ (Ok tt) → (c : ℕ)
    → Clear (chosen by_table_a) (studied (terms_asked w) (stations s)) (asked w c) → Clear (chosen by_lesser) (studied (terms_asked w) (stations s)) (asked w c)
clear_by_2 s w e q c f x m =
    spaced_by_1 (asked w c) (as_it_stands x) (passed s (by by_table_a w) q).0.known (studied-known s (count s) e (terms_asked w) x m) (f x m)

-- a row that moves nobody by 1 stands by 2
pub unmoved_by_2 : (s : List ℕ) (w : Wanted) → Accepted s → study_fault (stations s) (by by_table_a w) ≡ (Ok tt) → (c : ℕ) → row c 0 0 ∈ rows_by by_table_a s w → row c 0 0 ∈ rows_by by_lesser s w
unfolding studied looked
unmoved_by_2 s w e q c h = go (row c 0 0) refl ((arrangement_listed (chosen by_table_a) _ (asked w) w.first w.last (row c 0 0)).0 h)
  where
    ss : List Station
    ss = studied (terms_asked w) (stations s)

    go : (x : Row) → x ≡ row c 0 0 → Arrangement (chosen by_table_a) ss (asked w) w.first w.last x → row c 0 0 ∈ rows_by by_lesser s w
    go x y (unmoved d lo hi f) =
        let z : d ≡ c = ap (λ (r : Row). r.a) y in
        (arrangement_listed (chosen by_lesser) ss (asked w) w.first w.last (row c 0 0)).1 (unmoved c (rw z at lo) (rw z at hi) (clear_by_2 s w e q c (rw z at f)))
    go x y (moving d r m lo hi b v) = absurd (omega (arith, v.low, ap (λ (r : Row). r.c) y))

-- a movable station, and a new one on its channel, 107 km from it: short of 115, and not of 92
abbrev standing : Station
standing = record { id = 7; channel = 260; class = A; flags = 0; latitude = pos 0; longitude = pos 0 }

abbrev new : ℕ → Assignment
new c = assignment c A (pos 0) (pos 3460)

-- by 1 it may move to 221, since the channel is blocked; by 2 the channel is clear, and nobody moves
pub freed : T (not (clear table_a (new 260) (standing ∷ [])) && (allowed table_a (new 260) (standing ∷ []) standing 221 && clear lesser (new 260) (standing ∷ [])))
unfolding clear allowed every keep without given t series c1 c2 c3 c4 c5 P Q lon_gap NS EW S root D gap column relations relation table_a lesser_relations lesser exempt column_for separation square_of distance_of short_by movable
freed = tt
