-- The pair rule: 01, Classes, zones, separations, and the end of Distance in whole numbers. Assumes nothing.
use Rattle.std.specs.Prelude.{Bool, ◌&&◌, ℕ, leb, ltb, ℤ}
use Rattle.ground.specs.Guard.{given}
use Rattle.distance.specs.Distance.{S, D}
use Rattle.part73.specs.Columns.{gap, none, column}
use Rattle.part73.specs.TableA.{table_a}
use Rattle.spacing.specs.declared.Place.{Place}

-- what two stations are held by: channel, class and site
pub record Assignment : Type 0 where
  pub channel : ℕ
  pub class : ℕ
  pub latitude : ℤ
  pub longitude : ℤ

abbrev pub assignment : ℕ → ℕ → ℤ → ℤ → Assignment
assignment channel class latitude longitude = record { channel = channel; class = class; latitude = latitude; longitude = longitude }

-- a class at a site, on a channel
abbrev pub sited : Place → ℕ → Assignment
sited p channel = assignment channel p.class p.latitude p.longitude

-- a pair with both channels at or below 220 (73.509 governs these)
unfoldable pub exempt : ℕ → ℕ → Bool
exempt x y = leb x 220 && leb y 220

-- the column that applies to two channels
unfoldable pub column_for : ℕ → ℕ → ℕ
column_for x y = given (exempt x y) none (column (gap x y))

-- R, the separation in km of a station on channel x, class a, and one on channel y, class b, by a table; 0 where none applies
unfoldable pub separation : (ℕ → ℕ → ℕ → ℕ) → ℕ → ℕ → ℕ → ℕ → ℕ
separation km x a y b = km a b (column_for x y)

-- S and D of two assignments
unfoldable pub square_of : Assignment → Assignment → ℕ
square_of p q = S p.latitude p.longitude q.latitude q.longitude

unfoldable pub distance_of : Assignment → Assignment → ℕ
distance_of p q = D (square_of p q)

-- a pair is short exactly when D is below R
unfoldable pub short_by : (ℕ → ℕ → ℕ → ℕ) → Assignment → Assignment → Bool
short_by km p q = ltb (distance_of p q) (separation km p.channel p.class q.channel q.class)

-- by Table A
abbrev pub short : Assignment → Assignment → Bool
short p q = short_by table_a p q
