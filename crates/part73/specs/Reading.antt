-- Inside: where the code's tables have the separations of two classes. Assumes nothing.
use Rattle.std.specs.Prelude.{◌≡◌, List, [], map, ℕ, ◌<◌, get_or}
use Rattle.ground.specs.Lists.{build}
use Rattle.part73.specs.TableA.{Relation, ◌to◌∶◌, relations}
use Rattle.part73.specs.Separations.{Separations}

-- the four separations of a relation's classes, by a table of separations
abbrev pub row_for : (ℕ → ℕ → ℕ → ℕ) → Relation → List ℕ
row_for km (x to y ∶ s) = build 4 (km x y)

-- the rows of four, one beside the other, in the document's order
unfoldable pub rows_of : (ℕ → ℕ → ℕ → ℕ) → List (List ℕ)
rows_of km = map (row_for km) relations

-- the row r is that of the classes a and b, by whatever table
pub record RowOf (a b r : ℕ) : Type 0 where
  pub within : r < 36
  pub at : (km : ℕ → ℕ → ℕ → ℕ) → Separations km → (c : ℕ) → c < 4 → get_or (get_or (rows_of km) r []) c 0 ≡ km a b c

-- rows that are those of a table of separations, whichever
pub record Tabled (km : ℕ → ℕ → ℕ → ℕ) (rows : List (List ℕ)) : Type 0 where
  pub table : Separations km
  pub are : rows ≡ rows_of km

-- the co-channel separations of the class a against each class, by a table of separations
pub record CoChannel (km : ℕ → ℕ → ℕ → ℕ) (a : ℕ) (out : List ℕ) : Type 0 where
  pub at : (b : ℕ) → b < 8 → get_or out b 0 ≡ km a b 0
