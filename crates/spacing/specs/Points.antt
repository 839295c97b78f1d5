-- 01, Both sides of each line: P1 to P12, and NS and EW of P1 and P2, computed by the definitions. Assumes nothing.
use Rattle.std.specs.Prelude.{Bool, not, ◌&&◌, List, [], ◌∷◌, ℕ, ℤ, pos, negsuc, nat_abs, T, eqb}
use Rattle.ground.specs.Guard.{given}
use Rattle.ground.specs.Lists.{every}
use Rattle.distance.specs.Distance.{t, series, c1, c2, c3, c4, c5, P, Q, lon_gap, NS, EW, S, root, D}
use Rattle.part73.specs.Classes.{A, C}
use Rattle.part73.specs.Columns.{gap, column}
use Rattle.part73.specs.TableA.{relations, relation, table_a}
use Rattle.spacing.specs.Pair.{Assignment, assignment, exempt, column_for, separation, square_of, distance_of, short_by, short}

-- two stations or two sites, with what is said of them
pub data Point : Type 0 where
  short_pair : Assignment → Assignment → Point
  spaced_pair : Assignment → Assignment → Point
  apart : ℤ → ℤ → ℤ → ℤ → ℕ → Point
  sides : ℤ → ℤ → ℤ → ℤ → ℕ → ℕ → Point

abbrev pub right : Point → Bool
right (short_pair p q) = short p q
right (spaced_pair p q) = not (short p q)
right (apart lat1 lon1 lat2 lon2 d) = eqb (D (S lat1 lon1 lat2 lon2)) d
right (sides lat1 lon1 lat2 lon2 ns ew) = eqb (nat_abs (NS lat1 lat2)) ns && eqb (nat_abs (EW lat1 lon1 lat2 lon2)) ew

abbrev pub points : List Point
points =
    short_pair (assignment 250 A (pos 0) (pos 0)) (assignment 250 A (pos 0) (pos 3702))
    ∷ spaced_pair (assignment 250 A (pos 0) (pos 0)) (assignment 250 A (pos 0) (pos 3703))
    ∷ short_pair (assignment 250 A (pos 0) (pos 0)) (assignment 252 A (pos 0) (pos 986))
    ∷ spaced_pair (assignment 250 A (pos 0) (pos 0)) (assignment 252 A (pos 0) (pos 987))
    ∷ short_pair (assignment 230 A (pos 0) (pos 0)) (assignment 283 A (pos 0) (pos 307))
    ∷ spaced_pair (assignment 230 A (pos 0) (pos 0)) (assignment 283 A (pos 0) (pos 308))
    ∷ short_pair (assignment 250 C (pos 4712) (pos 0)) (assignment 250 C (negsuc 4711) (pos 0))
    ∷ spaced_pair (assignment 250 C (pos 4713) (pos 0)) (assignment 250 C (negsuc 4712) (pos 0))
    ∷ spaced_pair (assignment 250 A (pos 0) (pos 0)) (assignment 254 A (pos 0) (pos 0))
    ∷ spaced_pair (assignment 230 A (pos 0) (pos 0)) (assignment 282 A (pos 0) (pos 0))
    ∷ spaced_pair (assignment 220 A (pos 0) (pos 0)) (assignment 220 A (pos 0) (pos 0))
    ∷ apart (pos 0) (pos 0) (pos 0) (pos 3600) 111
    ∷ sides (pos 0) (pos 0) (pos 0) (pos 3702) 0 1144747
    ∷ sides (pos 0) (pos 0) (pos 0) (pos 3703) 0 1145057
    ∷ []

pub points_right : T (every right points)
unfolding every given t series c1 c2 c3 c4 c5 P Q lon_gap NS EW S root D gap column relations relation table_a exempt column_for separation square_of distance_of short_by
points_right = tt
