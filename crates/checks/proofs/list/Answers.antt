use mathlib.Core.Path.{◌≡◌, sym, ap, ◌∙◌}
use mathlib.Core.List.{List}
use Prim.Native.Nat.{◌*◌}
use native.Mathlib.Omega.{arith}
use lib.ListN.{length}
use Rattle.std.proofs.Common.{rules, Err}
use Rattle.ground.specs.Rows.{Row, flat}
use Rattle.spacing.specs.Pair.{sited}
use Rattle.versions.specs.Version.{limit}
use Rattle.stations.specs.Image.{station_at, stations}
use Rattle.survey.specs.Ways.{studied, chosen_for}
use Rattle.desk.proofs.Answers.{no_room, enough, written}
use Rattle.checks.specs.Check.{row_of, rows_for}
use Rattle.checks.proofs.Listing.{length_rows, noted_within, rows_noted}
use Rattle.checks.proofs.list.Goals as goal
use Rattle.checks.proofs.list.Goals.{After-len}

-- three numbers for each noted position
need : (c : After-len) → let s = c.args.study.now in 3 * c.len.result ≡ length (rows_for (sited s.place c.args.channel) (chosen_for s.terms) (studied s.terms (stations s.table.image.now)))
need c = let s = c.args.study.now in let p = sited s.place c.args.channel in
    let e = ap (λ (rs : List Row). length (flat rs)) (rows_noted s.table.image.now s.terms p c.short_positions-positions.ensures s.table.accepted) in
    omega (arith, e, c.len.ensures.value, length_rows (λ j. row_of (chosen_for s.terms) p (station_at s.table.image.now j)) c.short_positions-positions.result.items)

pub returns-in_err-room_fault : goal.returns-in_err-room_fault
returns-in_err-room_fault c =
    let e : c.from_residual.result ≡ Err c.in_err-room_fault.field-0.0 = search rules in
    rw e (no_room _ c.args.rows.now _ (need (goal.at.returns-in_err-room_fault c).After-len) (sym c.room_fault.ensures ∙ c.in_err-room_fault.was))

pub put_noted-requires-clause-few : goal.put_noted-requires-clause-few
unfolding limit
put_noted-requires-clause-few c = c.as_slice.ensures.fits

pub put_noted-requires-clause-within : goal.put_noted-requires-clause-within
put_noted-requires-clause-within c = let s = c.args.study.now in
    noted_within s.table.image.now s.terms (sited s.place c.args.channel) (c.as_slice.ensures.value ∙ c.short_positions-positions.ensures)

pub returns : goal.returns
returns c = let s = c.args.study.now in let p = sited s.place c.args.channel in
    let e = c.as_slice.ensures.value ∙ c.short_positions-positions.ensures in
    let w = rw (rows_noted s.table.image.now s.terms p e s.table.accepted) at c.put_noted.ensures in
    let n = need (goal.at.returns c).After-len in
    written _ _ _ _ (record { next = omega (arith, n); stored = w }) (omega (arith, n, enough _ _ (sym c.room_fault.ensures ∙ c.in_ok-room_fault.was)))
