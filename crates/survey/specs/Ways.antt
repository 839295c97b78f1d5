-- Which stations a question studies, and who stands in the way of a station: those that it is short to. Assumes nothing.
use Rattle.std.specs.Prelude.{Bool, not, List, ℕ}
use Rattle.ground.specs.Lists.{keep, every}
use Rattle.part73.specs.Standards.{chosen}
use Rattle.spacing.specs.Pair.{Assignment, sited, short_by}
use Rattle.spacing.specs.declared.Place.{Place}
use Rattle.stations.specs.Lists.{has_id}
use Rattle.stations.specs.declared.Station.{Station}
use Rattle.survey.specs.declared.Terms.{Terms}

-- the class and site of a station
abbrev pub place_of : Station → Place
place_of r = record { class = r.class; latitude = r.latitude; longitude = r.longitude }

-- a station on a channel, and on its own
abbrev pub on_channel : ℕ → Station → Assignment
on_channel channel r = sited (place_of r) channel

abbrev pub as_it_stands : Station → Assignment
as_it_stands r = on_channel r.channel r

-- 02, R-1: which records a question looks at, by its terms: all but the one with the id left aside. No record has the id 0, so
-- with 0 it looks at every one
unfoldable pub looked : Terms → Station → Bool
looked t r = not (has_id t.aside r)

-- the stations that it studies
unfoldable pub studied : Terms → List Station → List Station
studied t ss = keep (looked t) ss

-- 02, R-6: the table of separations that a question goes by, by its terms: the one that its standard chooses
abbrev pub chosen_for : Terms → ℕ → ℕ → ℕ → ℕ
chosen_for t = chosen t.standard

-- what is proposed, p, is short to a station, by a table of separations
abbrev pub near : (ℕ → ℕ → ℕ → ℕ) → Assignment → Station → Bool
near km p r = short_by km p (as_it_stands r)

-- p is short to nobody
unfoldable pub clear : (ℕ → ℕ → ℕ → ℕ) → Assignment → List Station → Bool
clear km p ss = every (λ r. not (near km p r)) ss
