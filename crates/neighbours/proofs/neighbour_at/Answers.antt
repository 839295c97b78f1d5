use mathlib.Core.Path.{◌≡◌, ap, ◌∙◌}
use Rattle.spacing.specs.Pair.{square_of, distance_of}
use Rattle.spacing.specs.declared.Place.{Place}
use Rattle.stations.specs.declared.Station.{Station}
use Rattle.survey.specs.Ways.{place_of}
use Rattle.survey.proofs.Records.{known_at}
use Rattle.neighbours.proofs.neighbour_at.Goals as goal

theirs : {r x : Station} {q : Place} → q ≡ place_of r → r ≡ x → q ≡ place_of x
theirs p e = p ∙ ap place_of e

pub separation_of-km-requires : goal.separation_of-km-requires
separation_of-km-requires c = (c.args.study.now.placed.known, rw (theirs c.place_of-theirs.ensures c.station_at-r.ensures) (known_at _ c.args.study.now.table.accepted c.args.i c.requires).placed.known)

pub km_between-requires : goal.km_between-requires
km_between-requires c = (c.args.study.now.placed, rw (theirs c.place_of-theirs.ensures c.station_at-r.ensures) (known_at _ c.args.study.now.table.accepted c.args.i c.requires).placed)

pub returns : goal.returns
unfolding distance_of square_of
returns c = λ km t. rw (c.column_told.ensures, c.from.ensures, c.separation_of-km.ensures km t, c.km_between.ensures, c.place_of-theirs.ensures, c.station_at-r.ensures)
