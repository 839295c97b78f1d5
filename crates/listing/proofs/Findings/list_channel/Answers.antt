use mathlib.Core.Path.{◌≡◌, refl, ap, ◌∙◌}
use mathlib.Core.Logic.{⊎_elim}
use native.Mathlib.Omega.{arith}
use Rattle.stations.specs.Image.{station_at}
use Rattle.stations.specs.declared.Station.{Station}
use Rattle.planning.specs.Flags.{row_of}
use Rattle.listing.specs.Listing.{move_rows}
use Rattle.ground.proofs.Writes.{wrote_as, wrote_none}
use Rattle.listing.proofs.Marking.{rows_free, rows_many, rows_lone_at, moves_bound}
use Rattle.listing.proofs.Findings.list_channel.Goals as goal

pub returns-then-mark-eq0-clause-puts : goal.returns-then-mark-eq0-clause-puts
returns-then-mark-eq0-clause-puts c = let p = c.put.ensures in record { wrote = wrote_as (rows_free _ _ _ _ c.if-mark-eq0.true) p.wrote; same_reference = p.same_reference }

pub returns-in-Some-clause-puts : goal.returns-in-Some-clause-puts
returns-in-Some-clause-puts c =
    let s = c.args.self.now in
    let row = row_of s.channels.first s.moves.now c.args.c in
    let id : c.station_at-id.result.id ≡ (station_at s.table.image.now c.in-Some.i).id = ap (λ (r : Station). r.id) c.station_at-id.ensures in
    let p = c.list_moves.ensures in
    record { wrote = wrote_as (ap (λ i. move_rows row i c.args.c) id ∙ rows_lone_at _ _ _ _ c.in-Some.i c.in-Some.ensures.0 c.in-Some.ensures.1) p.wrote; same_reference = p.same_reference }

pub returns-in-Some-clause-upper_bound : goal.returns-in-Some-clause-upper_bound
returns-in-Some-clause-upper_bound c =
    let s = c.args.self.now in
    omega (arith, c.list_moves.ensures.wrote.next, moves_bound (row_of s.channels.first s.moves.now c.args.c) c.station_at-id.result.id c.args.c)

pub returns-in_default-clause-puts : goal.returns-in_default-clause-puts
returns-in_default-clause-puts c = record { wrote = wrote_as (rows_many _ _ _ _ (⊎_elim (λ e. absurd (c.if-mark-eq0.false e)) (λ e. e) c.in_default.ensures)) (wrote_none _ _); same_reference = refl }
