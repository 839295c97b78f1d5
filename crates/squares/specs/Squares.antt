-- 02, R-5: the squared limits of a table of separations, for both orders of the classes. Assumes nothing.
use Rattle.std.specs.Prelude.{◌&&◌, List, [], ℕ, ◌-◌, ◌*◌, ltb, get_or}
use Rattle.ground.specs.Guard.{given}
use Rattle.ground.specs.Lists.{build}
use Rattle.part73.specs.Classes.{is_class}
use Rattle.part73.specs.Columns.{none}

-- the square of the least distance, in decimetres, that rounds to R km
unfoldable pub limit_of : ℕ → ℕ
limit_of r = (10000 * r - 5000) * (10000 * r - 5000)

-- the table of all of them: by the class of one station, the class of the other, and the column
unfoldable pub squared_limits : (ℕ → ℕ → ℕ → ℕ) → List (List (List ℕ))
squared_limits km = build 8 (λ a. build 8 (λ b. build 4 (λ c. limit_of (km a b c))))

-- an entry of such a table
abbrev pub entry : List (List (List ℕ)) → ℕ → ℕ → ℕ → ℕ
entry squares a b c = get_or (get_or (get_or squares a []) b []) c 0

-- the limit of two classes at a column; 0 where a class is none of the eight, or the column none of the four
unfoldable pub limit_for : (ℕ → ℕ → ℕ → ℕ) → ℕ → ℕ → ℕ → ℕ
limit_for km a b c = given (is_class a && is_class b && ltb c none) (limit_of (km a b c)) 0
