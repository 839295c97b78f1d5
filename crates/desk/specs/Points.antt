-- 01, Both sides of each line: P12 through the distance question, computed by its definition. Assumes nothing.
use Rattle.std.specs.Prelude.{◌≡◌, refl, pos, Ok}
use Rattle.ground.specs.Guard.{given}
use Rattle.distance.specs.Distance.{latitude_ok, longitude_ok, t, series, c1, c2, c3, c4, c5, P, Q, lon_gap, NS, EW, S, root, D}
use Rattle.desk.specs.Asked.{site_ok}
use Rattle.desk.specs.Questions.{distance_of}

pub point_12 : distance_of (pos 0) (pos 0) (pos 0) (pos 3600) ≡ Ok 111
unfolding distance_of site_ok latitude_ok longitude_ok given t series c1 c2 c3 c4 c5 P Q lon_gap NS EW S root D
point_12 = refl
