use mathlib.Core.Path.{◌≡◌, sym, ap, ◌∙◌}
use mathlib.Core.Bool.{and-true}
use Rattle.spacing.specs.Pair.{sited}
use Rattle.stations.specs.Image.{station_at}
use Rattle.survey.specs.Ways.{place_of, looked, chosen_for, near}
use Rattle.survey.specs.Walking.{blocks}
use Rattle.survey.proofs.Records.{known_at}
use Rattle.survey.proofs.Shorts.{walk-limited, blocks-spaced}
use Rattle.survey.proofs.walk.Walk.short_at.Goals as goal
use Rattle.survey.proofs.walk.Walk.short_at.Goals.{After-is_short-short, After-place_of}

-- the record's class and site
theirs : (c : After-place_of) → c.place_of.result ≡ place_of (station_at c.args.self.now.study.table.image.now c.args.i)
theirs c = c.place_of.ensures ∙ ap place_of c.station_at-r.ensures

pub is_short-short-requires : goal.is_short-short-requires
is_short-short-requires c = (c.args.self.now.study.placed, rw (theirs (goal.at.is_short-short-requires c).After-place_of) (known_at _ c.args.self.now.study.table.accepted c.args.i c.requires).placed)

-- whether it is short to the record
near-it : (c : After-is_short-short) → let s = c.args.self.now.study in c.is_short-short.result ≡ near (chosen_for s.terms) (sited s.place c.args.channel) (station_at s.table.image.now c.args.i)
near-it c = simp (c.place_of.ensures ∙ ap place_of c.station_at-r.ensures, c.station_at-r.ensures) at (c.is_short-short.ensures _ (walk-limited c.args.self.now.study.terms.standard c.args.self.now.held))

pub returns-then-short : goal.returns-then-short
unfolding blocks
returns-then-short c = let s = c.args.self.now.study in
    rw (sym (near-it (goal.at.returns-then-short c).After-is_short-short) ∙ c.if-short.true, and-true (looked s.terms (station_at s.table.image.now c.args.i)))
    (c.looks.ensures ∙ ap (looked s.terms) c.station_at-r.ensures)

pub returns-else-short : goal.returns-else-short
returns-else-short c = c.if-short.false ∙ sym (blocks-spaced _ _ _ _ _ (sym (near-it (goal.at.returns-else-short c).After-is_short-short) ∙ c.if-short.false))
