-- The rows of a table one beside the other: where the row of two classes stands, by one test over the whole table.
-- Assumes nothing.
use mathlib.Core.Path.{◌≡◌, refl}
use mathlib.Core.Bool.{Bool, ◌&&◌, ◌||◌, not, true, false}
use mathlib.Core.List.{[]}
use Prim.Native.Nat.{ℕ, ◌+◌, ◌-◌, ◌*◌, ◌/◌, ◌≤◌, ◌<◌}
use lib.Dec.{T, leb, ltb, eqb, ltb→lt, eqb→eq, le→leb, lit<}
use lib.ListN.{length, get_or}
use Rattle.ground.specs.Lists.{build}
use Rattle.ground.proofs.Built.{get_or-build, get_or-map}
use Rattle.ground.proofs.Ranges.{all3, at3, left, right}
use Rattle.part73.specs.TableA.{Relation, ◌to◌∶◌, relations}
use Rattle.part73.specs.Reading.{row_for, rows_of, RowOf}

abbrev pub row_of : ℕ → ℕ → ℕ
row_of lo hi = lo * (15 - lo) / 2 + hi

-- the two classes of a relation
abbrev one : Relation → ℕ
one (x to y ∶ s) = x

abbrev other : Relation → ℕ
other (x to y ∶ s) = y

-- the relation at a row
relation_at : ℕ → Relation
relation_at r = get_or relations r (0 to 0 ∶ [])

implies : (a b : Bool) → T (not a || b) → T a → T b
implies true b t h = t
implies false b t h = absurd h

test : ℕ → ℕ → ℕ → Bool
test lo hi c =
    not (leb lo hi)
    || (ltb (row_of lo hi) 36 && (eqb (one (relation_at (row_of lo hi))) lo && eqb (other (relation_at (row_of lo hi))) hi))

tested : T (all3 8 8 1 test)
unfolding test relation_at relations
tested = tt

row_for_lem : (km : ℕ → ℕ → ℕ → ℕ) (x : Relation) → row_for km x ≡ build 4 (km (one x) (other x))
row_for_lem km (x to y ∶ s) = refl

long : length relations ≡ 36
unfolding relations
long = refl

pub rule : (lo hi : ℕ) → lo < 8 → lo ≤ hi → hi < 8 → RowOf lo hi (row_of lo hi)
unfolding test rows_of relation_at
rule lo hi l o h =
    record {
      within = within;
      at = λ km table c k.
          rw (get_or-map (row_for km) relations (row_of lo hi) (0 to 0 ∶ []) [] (rw long within), row_for_lem km (relation_at (row_of lo hi)), get_or-build 4 (km (one (relation_at (row_of lo hi))) (other (relation_at (row_of lo hi)))) c 0 k, first, second);
    }
  where
    tests : T (ltb (row_of lo hi) 36 && (eqb (one (relation_at (row_of lo hi))) lo && eqb (other (relation_at (row_of lo hi))) hi))
    tests = implies (leb lo hi) _ (at3 8 8 1 test tested lo hi 0 l h (lit< tt)) (le→leb lo hi o)

    within : row_of lo hi < 36
    within = ltb→lt _ _ (left (ltb (row_of lo hi) 36) _ tests)

    both : T (eqb (one (relation_at (row_of lo hi))) lo && eqb (other (relation_at (row_of lo hi))) hi)
    both = right (ltb (row_of lo hi) 36) _ tests

    first : one (relation_at (row_of lo hi)) ≡ lo
    first = eqb→eq _ _ (left (eqb (one (relation_at (row_of lo hi))) lo) _ both)

    second : other (relation_at (row_of lo hi)) ≡ hi
    second = eqb→eq _ _ (right (eqb (one (relation_at (row_of lo hi))) lo) _ both)
