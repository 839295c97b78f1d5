use mathlib.Core.Path.{◌≡◌, ap, ◌∙◌}
use native.Mathlib.Omega.{arith}
use Rattle.part73.proofs.Chosen.{chosen-table}
use Rattle.spacing.specs.Reaching.{InRange}
use Rattle.spacing.proofs.Meaning.{reaches_either}
use Rattle.stations.specs.Image.{station_at}
use Rattle.survey.specs.Ways.{place_of}
use Rattle.survey.proofs.Records.{few, known_at}
use Rattle.planning.proofs.blocker_at.Goals as goal
use Rattle.planning.proofs.blocker_at.Goals.{After-place_of}

-- the place is that of the record
theirs : (c : After-place_of) → c.place_of.result ≡ place_of (station_at c.args.study.now.table.image.now c.args.i)
theirs c = c.place_of.ensures ∙ ap place_of c.station_at-r.ensures

placed : (c : After-place_of) → InRange c.place_of.result
placed c = rw (theirs c) (known_at _ c.args.study.now.table.accepted _ c.requires.within).placed

pub overflow_cast-mark : goal.overflow_cast-mark
overflow_cast-mark c = omega (arith, few _ c.args.study.now.table.accepted, c.requires.within)

pub overflow_add-mark : goal.overflow_add-mark
overflow_add-mark c = omega (arith, few _ c.args.study.now.table.accepted, c.requires.within)

pub invariant_of-theirs : goal.invariant_of-theirs
invariant_of-theirs c = record { placed = placed (goal.at.invariant_of-theirs c).After-place_of }

pub returns-2 : goal.returns-2
returns-2 c =
    let s = c.args.study.now in
    let e = theirs (goal.at.returns-2 c).After-place_of in
    let w = c.by-walk.ensures in
    let table = chosen-table s.terms.standard in
    let m = rw (w.table, w.terms, w.place, e) at c.survey.ensures in
    let held = rw (w.terms, w.place) at c.by-walk.result.held in
    let reached = c.reach_of.ensures _ (record { table = table; at = held }) in
    record {
      met = record { mark = omega arith; own = rw c.station_at-r.ensures; reach = reaches_either table (rw e at reached) };
      held = m;
    }
