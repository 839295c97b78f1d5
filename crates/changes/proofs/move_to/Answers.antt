use mathlib.Core.Path.{◌≡◌, refl, sym, ap, ◌∙◌}
use mathlib.Core.Bool.{true}
use mir.Syntax.{w32}
use mir.Val.{to_z, of_z}
use mir.ValLaws.{to_z-of_z}
use native.Mathlib.Omega.{arith}
use borrow.Author.Rules.{rules}
use Rattle.stations.specs.Image.{station_at, stations}
use Rattle.stations.specs.Lists.{movable, onto}
use Rattle.stations.specs.declared.Station.{Station}
use Rattle.survey.proofs.Records.{known_at}
use Rattle.finding.specs.Asking.{first_of}
use Rattle.finding.specs.Conflicts.{conflicts}
use Rattle.changes.proofs.There.{inside, count_small, one_within, within, own_id}
use Rattle.changes.proofs.Ways.{table_out, refused_by, granted_by, move-outside, move_absent_at, move_fixed_at, move_short_at, move_granted_at}
use Rattle.changes.proofs.move_to.Goals as goal
use Rattle.changes.proofs.move_to.Goals.{After-first_conflict, After-station_at-x}

north : (c : After-station_at-x) → let z = c.station_at-x.result.latitude in to_z w32 (of_z w32 z) ≡ z
north c = to_z-of_z w32 c.station_at-x.result.latitude (search rules)

east : (c : After-station_at-x) → let z = c.station_at-x.result.longitude in to_z w32 (of_z w32 z) ≡ z
east c = to_z-of_z w32 c.station_at-x.result.longitude (search rules)

-- the first that stands in the way of the station on its new channel
way : (c : After-first_conflict) → let s = c.in-Ok.table.image.now in c.first_conflict.result ≡ first_of (conflicts (onto c.args.channel (station_at s c.in-Ok-find.p))) (stations s)
way c = rw (to_z-of_z w32 c.station_at-x.result.latitude (search rules), to_z-of_z w32 c.station_at-x.result.longitude (search rules), c.station_at-x.ensures) at c.first_conflict.ensures

free : (c : After-first_conflict) → movable (station_at c.in-Ok.table.image.now c.in-Ok-find.p) ≡ true
free c = ap movable (sym c.station_at-x.ensures) ∙ sym c.is_movable.ensures ∙ c.if-not-is_movable.false

pub returns-in_default : goal.returns-in_default
returns-in_default c = table_out _ _ _ (rw c.unwrap_err.ensures at c.of-judged.ensures)

pub returns-then-is_outside : goal.returns-then-is_outside
returns-then-is_outside c = rw (← c.in-Ok.ensures) (refused_by _ _ _ c.in-Ok.table.accepted (move-outside _ _ _ (sym c.is_outside.ensures ∙ c.if-is_outside.true)))

pub returns-in_default-find : goal.returns-in_default-find
returns-in_default-find c = rw (← c.in-Ok.ensures)
    (refused_by _ _ _ c.in-Ok.table.accepted (move_absent_at _ _ _ (sym c.is_outside.ensures ∙ c.if-is_outside.false) _ (sym c.find.ensures ∙ c.in_default-find.is)))

pub station_at-x-requires : goal.station_at-x-requires
station_at-x-requires c = within _ c.in-Ok.table.accepted _ _ (sym c.find.ensures ∙ c.in-Ok-find.is)

pub overflow_cast-result : goal.overflow_cast-result
overflow_cast-result c = omega (arith, within _ c.in-Ok.table.accepted _ _ (sym c.find.ensures ∙ c.in-Ok-find.is), count_small _ c.in-Ok.table.accepted)

pub returns-then-not-is_movable : goal.returns-then-not-is_movable
returns-then-not-is_movable c =
    let e = c.in-Ok.table.accepted in
    let fixed = ap movable (sym c.station_at-x.ensures) ∙ sym c.is_movable.ensures ∙ c.if-not-is_movable.true in
    rw (← c.in-Ok.ensures) (refused_by _ _ _ e (move_fixed_at _ _ _ (sym c.is_outside.ensures ∙ c.if-is_outside.false) _ e (sym c.find.ensures ∙ c.in-Ok-find.is) fixed))

pub first_conflict-requires : goal.first_conflict-requires
first_conflict-requires c =
    let x = (goal.at.first_conflict-requires c).After-station_at-x in
    let e = c.in-Ok.table.accepted in
    let k = known_at _ e _ (within _ e _ _ (sym c.find.ensures ∙ c.in-Ok-find.is)) in
    let a = inside _ (sym c.is_outside.ensures ∙ c.if-is_outside.false) in
    rw (north x, east x, c.station_at-x.ensures) (record { asked = record { low = a.0; high = a.1 }; placed = k.placed })

pub overflow_cast-result-in-Some : goal.overflow_cast-result-in-Some
overflow_cast-result-in-Some c = omega (arith, one_within _ c.in-Ok.table.accepted _ _ (sym c.first_conflict.ensures ∙ c.in-Some.is), count_small _ c.in-Ok.table.accepted)

pub returns-in-Some : goal.returns-in-Some
returns-in-Some c =
    let e = c.in-Ok.table.accepted in
    let w = (goal.at.returns-in-Some c).After-first_conflict in
    rw (← c.in-Ok.ensures)
    (refused_by _ _ _ e (move_short_at _ _ _ (sym c.is_outside.ensures ∙ c.if-is_outside.false) _ e (sym c.find.ensures ∙ c.in-Ok-find.is) (free w) _ (sym (way w) ∙ c.in-Some.is)))

pub grant_move-requires : goal.grant_move-requires
grant_move-requires c =
    let x = (goal.at.grant_move-requires c).After-station_at-x in
    rw (north x, east x, c.station_at-x.ensures) (record { within = within _ c.in-Ok.table.accepted _ _ (sym c.find.ensures ∙ c.in-Ok-find.is); same = refl })

pub returns : goal.returns
returns c =
    let e = c.in-Ok.table.accepted in
    let there = sym c.find.ensures ∙ c.in-Ok-find.is in
    let w = (goal.at.returns c).After-first_conflict in
    let own : c.station_at-x.result.id ≡ c.args.id = ap (λ (r : Station). r.id) c.station_at-x.ensures ∙ own_id _ e _ _ there in
    rw (← c.in-Ok.ensures)
    (granted_by _ _ e (move_granted_at _ _ _ (sym c.is_outside.ensures ∙ c.if-is_outside.false) _ e there (free w) (sym (way w) ∙ c.in_default-first_conflict.is)) (rw own at c.grant_move.ensures))
