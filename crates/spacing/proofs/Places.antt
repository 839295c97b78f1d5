-- A place in range fits 32 bits. Assumes nothing.
use mir.Syntax.{w32}
use mir.Val.{SFits}
use Rattle.distance.proofs.Sites.{north_fits, east_fits}
use Rattle.spacing.specs.Reaching.{InRange}
use Rattle.spacing.specs.declared.Place.{Place}

pub lat_fits : {p : Place} → InRange p → SFits w32 p.latitude
lat_fits i = north_fits i.placed

pub lon_fits : {p : Place} → InRange p → SFits w32 p.longitude
lon_fits i = east_fits i.placed
