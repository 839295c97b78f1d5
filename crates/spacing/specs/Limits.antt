-- Inside: the pair rule by squared limits, as the code goes by it. Assumes nothing.
use Rattle.std.specs.Prelude.{◌≡◌, List, [], ℕ, suc, ◌+◌, ◌-◌, ◌*◌, ◌/◌, ◌≤◌, ◌<◌, ltb, get_or}
use Rattle.distance.specs.Bounds.{LeastScale}
use Rattle.part73.specs.Columns.{column}
use Rattle.part73.specs.Separations.{Separations}
use Rattle.squares.specs.Squares.{limit_of, entry}
use Rattle.spacing.specs.declared.Limits.{Limits}
use Rattle.spacing.specs.declared.Place.{Place}
use Rattle.spacing.specs.declared.Reach.{Reach}

-- seconds of latitude that put two sites at least (10,000 R - 5,000) decimetres apart: no degree is shorter than 1,105,648,400
unfoldable pub north_of : ℕ → ℕ
north_of r = (10000 * r - 5000) * 3600000 / 1105648400 + 1

-- and of longitude, where no degree is shorter than scale
unfoldable pub east_of : ℕ → ℕ → ℕ
east_of scale r = (10000 * r - 5000) * 3600000 / scale + 1

-- what the limits of a class have against the class b: the square in a column, and the seconds that clear the first column's
abbrev pub square_at : Limits → ℕ → ℕ → ℕ
square_at limits b c = get_or (get_or limits.squares b []) c 0

abbrev pub north_at : Limits → ℕ → ℕ
north_at limits b = get_or limits.north b 0

abbrev pub east_at : Limits → ℕ → ℕ
east_at limits b = get_or limits.east b 0

-- the limits of a class at a latitude
pub record LimitsAt (km : ℕ → ℕ → ℕ → ℕ) (p : Place) (limits : Limits) : Type 0 where
  pub square : (b c : ℕ) → b < 8 → c < 4 → square_at limits b c ≡ limit_of (km p.class b c)
  pub north : (b : ℕ) → b < 8 → north_at limits b ≡ north_of (km p.class b 0)
  pub scale : ℕ
  pub least : LeastScale p.latitude scale
  pub east : (b : ℕ) → b < 8 → east_at limits b ≡ east_of scale (km p.class b 0)

-- limits that are by a table of separations, whichever, and by some scale
pub record Limited (km : ℕ → ℕ → ℕ → ℕ) (p : Place) (limits : Limits) : Type 0 where
  pub table : Separations km
  pub at : ∥ LimitsAt km p limits ∥₁

-- limits that are by some table of separations
pub record ByTable (p : Place) (limits : Limits) : Type 0 where
  pub km : ℕ → ℕ → ℕ → ℕ
  pub limited : Limited km p limits

-- the limits of a class so far as its row of the table of squares has them
pub record FromRow (squares : List (List (List ℕ))) (class : ℕ) (limits : Limits) : Type 0 where
  pub square : (b c : ℕ) → b < 8 → c < 4 → square_at limits b c ≡ entry squares class b c

-- separations of 1 to 290 km
pub record InKm (separations : List ℕ) : Type 0 where
  pub some : (b : ℕ) → b < 8 → 0 < get_or separations b 0
  pub most : (b : ℕ) → b < 8 → get_or separations b 0 ≤ 290

-- the seconds that clear such a separation from each class, where no degree is shorter than scale
pub record Cleared (separations : List ℕ) (scale : ℕ) (out : List ℕ) : Type 0 where
  pub at : (b : ℕ) → b < 8 → get_or out b 0 ≡ east_of scale (get_or separations b 0)

-- four squares do not rise from column to column
pub record Falling (square : ℕ → ℕ) : Type 0 where
  pub on : (c : ℕ) → c < 3 → square (suc c) ≤ square c

-- r says in which of the four columns s lies below the square
pub record Under (square : ℕ → ℕ) (s : ℕ) (r : Reach) : Type 0 where
  pub most : r.steps ≤ 4
  pub low : (d : ℕ) → d ≤ 3 → ltb d r.steps ≡ ltb s (square (column d))
  pub last : r.far ≡ ltb s (square 3)
