-- 01, The questions: Check; 02, R-2: what is told of a station beside what is proposed. Assumes nothing.
use Rattle.std.specs.Prelude.{ℕ, ◌-◌}
use Rattle.spacing.specs.Pair.{Assignment, separation, column_for, distance_of}
use Rattle.stations.specs.declared.Station.{Station}
use Rattle.survey.specs.Ways.{as_it_stands}
use Rattle.neighbours.specs.declared.Neighbour.{Neighbour}

-- its id, D, R by a table of separations, and the column that applied, 0 to 3 in 01's order (`none` where none does)
abbrev pub neighbour_of : (ℕ → ℕ → ℕ → ℕ) → Assignment → Station → Neighbour
neighbour_of km p r =
    record {
      id = r.id;
      distance = distance_of p (as_it_stands r);
      separation = separation km p.channel p.class r.channel r.class;
      column = column_for p.channel r.channel;
    }

-- 02, R-2: its shortfall, R - D
abbrev pub shortfall_of : Neighbour → ℕ
shortfall_of n = n.separation - n.distance
