use mathlib.Core.Path.{◌∙◌}
use Rattle.spacing.specs.Pair.{sited}
use Rattle.stations.specs.Image.{stations, count}
use Rattle.survey.specs.Ways.{studied, chosen_for}
use Rattle.survey.proofs.Studied.{studied_ascend}
use Rattle.neighbours.specs.Neighbours.{neighbour_of}
use Rattle.checks.proofs.Listing.{noted_within, noted_said}
use Rattle.reasons.proofs.Reasons.{kept_said}
use Rattle.reasons.proofs.found.Goals as goal

pub most_of-requires : goal.most_of-requires
most_of-requires c = let s = c.args.study.now in
    noted_within s.table.image.now s.terms (sited s.place c.args.channel) (c.as_slice.ensures.value ∙ c.short_positions-positions.ensures)

pub returns : goal.returns
returns c = let s = c.args.study.now in let p = sited s.place c.args.channel in
    let said = noted_said s.table.image.now s.terms p (c.as_slice.ensures.value ∙ c.short_positions-positions.ensures) (neighbour_of (chosen_for s.terms) p) s.table.accepted in
    rw (c.most_of.ensures, said) (kept_said p (chosen_for s.terms) (studied s.terms (stations s.table.image.now)) (studied_ascend s.table.image.now (count s.table.image.now) s.table.accepted s.terms))
