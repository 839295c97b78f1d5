-- Who is short to whom in a table, and which record stands in the way of a station. Assumes nothing.
use Rattle.std.specs.Prelude.{Bool, not, ◌&&◌}
use Rattle.spacing.specs.Pair.{short}
use Rattle.stations.specs.Lists.{has_id}
use Rattle.stations.specs.declared.Station.{Station}
use Rattle.survey.specs.Ways.{as_it_stands}

-- two stations are short to each other
abbrev pub short_to : Station → Station → Bool
short_to r x = short (as_it_stands r) (as_it_stands x)

-- another record, that the station is short to
unfoldable pub conflicts : Station → Station → Bool
conflicts r x = not (has_id r.id x) && short_to r x
