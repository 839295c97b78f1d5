-- That another record stands in the way of a station, and that it is short to nobody in the table without its own record, are
-- one and the same: what Move asks for and what Arrange asks for. Assumes nothing.
use mathlib.Core.Path.{◌≡◌, refl}
use mathlib.Core.Bool.{Bool, true, false, cond, not, ◌&&◌, ◌||◌}
use mathlib.Core.List.{List, [], ◌∷◌}
use Rattle.ground.specs.Lists.{keep, every, some}
use Rattle.part73.specs.TableA.{table_a}
use Rattle.stations.specs.Lists.{has_id, without}
use Rattle.stations.specs.declared.Station.{Station}
use Rattle.survey.specs.Ways.{as_it_stands, near, clear}
use Rattle.finding.specs.Conflicts.{conflicts}

morgan : (h s k : Bool) → k ≡ not s → (not h && k) ≡ not (h || s)
morgan true s k e = refl
morgan false s k e = e

pub clear_others : (r : Station) (ss : List Station) → clear table_a (as_it_stands r) (without r.id ss) ≡ not (some (conflicts r) ss)
unfolding clear without every keep some conflicts
clear_others r [] = refl
clear_others r (x ∷ xs) = go (has_id r.id x) (clear_others r xs)
  where
    go : (b : Bool) → clear table_a (as_it_stands r) (without r.id xs) ≡ not (some (conflicts r) xs)
        → clear table_a (as_it_stands r) (cond (not b) (x ∷ without r.id xs) (without r.id xs)) ≡ not ((not b && near table_a (as_it_stands r) x) || some (conflicts r) xs)
    go true e = e
    go false e = morgan (near table_a (as_it_stands r) x) _ _ e
