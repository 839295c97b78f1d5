use Rattle.stations.specs.Image.{station_at}
use Rattle.stations.proofs.reading.station_at.Goals as goal

pub returns : goal.returns
unfolding station_at
returns c = c.record_from.ensures
