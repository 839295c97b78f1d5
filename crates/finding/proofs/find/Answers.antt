use mathlib.Core.Path.{◌≡◌, sym, ap, ◌∙◌}
use native.Mathlib.Omega.{arith}
use Rattle.stations.specs.declared.Station.{Station}
use Rattle.finding.proofs.There.{there, not_there}
use Rattle.finding.proofs.find.Goals as goal
use Rattle.finding.proofs.find.Goals.{else-p-count-via-then-p-count+else-station_at-id, else-p-count-via-else-p-count}

pub returns-then-station_at-id : goal.returns-then-station_at-id
returns-then-station_at-id c =
    there _ _ c.args.table.now.accepted c.args.id _ c.place_of-p.ensures (omega (arith, c.if-p-count.true, c.count.ensures)) (sym (ap (λ (r : Station). r.id) c.station_at.ensures) ∙ c.if-station_at-id.true)

pub returns-else-p-count : goal.returns-else-p-count
returns-else-p-count c =
    not_there _ _ c.args.table.now.accepted c.args.id _ c.place_of-p.ensures
    (λ l q. elim c.else-p-count.branch [
      | else-p-count-via-then-p-count+else-station_at-id w ↦ w.if-station_at-id.false (ap (λ (r : Station). r.id) w.station_at.ensures ∙ q)
      | else-p-count-via-else-p-count w ↦ omega (arith, l, w.if-p-count.false, c.count.ensures)
    ])
