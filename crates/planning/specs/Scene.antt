-- Inside: who is short to whom, of the stations by their positions and a new one, and what is clean. Assumes nothing.
use Rattle.std.specs.Prelude.{ℕ, Bool, not, ◌&&◌, ◌||◌, List, eqb}
use Rattle.ground.specs.Lists.{span, every}
use Rattle.spacing.specs.Pair.{Assignment, sited, short_by}
use Rattle.spacing.specs.declared.Place.{Place}
use Rattle.stations.specs.Image.{station_at, count}
use Rattle.stations.specs.Lists.{movable as is_movable}
use Rattle.stations.specs.declared.Station.{Station}
use Rattle.survey.specs.Ways.{on_channel, looked, chosen_for}
use Rattle.survey.specs.Walking.{blocks}
use Rattle.survey.specs.declared.Terms.{Terms}

-- the stations by position, and who is short to whom
pub record Scene : Type 0 where
  pub size : ℕ
  pub id : ℕ → ℕ
  pub channel : ℕ → ℕ
  pub movable : ℕ → Bool
  -- the new station, on c, is short to the one at j
  pub new : ℕ → ℕ → Bool
  -- the station at i, on m, is short to the one at j
  pub moved : ℕ → ℕ → ℕ → Bool
  -- the new station, on c, is short to the one at i, on m
  pub meets : ℕ → ℕ → ℕ → Bool

-- the scene of a table, of its records that are looked at, and a new station, by a table of separations
unfoldable pub scene : (ℕ → ℕ → ℕ → ℕ) → (Station → Bool) → List ℕ → (ℕ → Assignment) → Scene
scene km look s new =
    record {
      size = count s;
      id = λ j. (station_at s j).id;
      channel = λ j. (station_at s j).channel;
      movable = λ j. look (station_at s j) && is_movable (station_at s j);
      new = λ c j. blocks km look s (new c) j;
      moved = λ i m j. blocks km look s (on_channel m (station_at s i)) j;
      meets = λ i m c. short_by km (new c) (on_channel m (station_at s i));
    }

-- that of a question, on its terms
abbrev pub scene_of : List ℕ → Terms → Place → Scene
scene_of s t p = scene (chosen_for t) (looked t) s (sited p)

-- the new station on c is short to nobody other than the one at i
unfoldable pub new_but : Scene → ℕ → ℕ → Bool
new_but t i c = every (λ j. eqb j i || not (t.new c j)) (span 0 t.size)

-- the one at i, on m, is short to no other
unfoldable pub moved_but : Scene → ℕ → ℕ → Bool
moved_but t i m = every (λ j. eqb j i || not (t.moved i m j)) (span 0 t.size)

-- with the new station on c, the one at i may go to m
unfoldable pub allowed : Scene → ℕ → ℕ → ℕ → Bool
allowed t c i m = t.movable i && (not (eqb m (t.channel i)) && (moved_but t i m && (new_but t i c && not (t.meets i m c))))
