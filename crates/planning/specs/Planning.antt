-- Inside: what the functions of this crate ask. Assumes nothing.
use Rattle.std.specs.Prelude.{◌≡◌, ℕ, ◌-◌, ◌<◌, Bool, List, Option}
use Rattle.std.specs.Option.{IfSome}
use Rattle.squares.specs.Squares.{squared_limits}
use Rattle.stations.specs.Image.{count}
use Rattle.survey.specs.Ways.{looked, chosen_for}
use Rattle.survey.specs.declared.walk.Study.{Study}
use Rattle.marking.specs.Marks.{Asked, Marked}
use Rattle.marking.specs.declared.Channels.{Channels}
use Rattle.planning.specs.Scene.{Scene, scene_of}
use Rattle.planning.specs.Flags.{Kept, Meets, Room, Down}
use Rattle.planning.specs.declared.Blocker.{Blocker}

-- the scene of a study
abbrev pub scene_in : Study → Scene
scene_in s = scene_of s.table.image.now s.terms s.place

-- what is known of the station at i, with the marks from its site
pub record Known (s : Study) (i : ℕ) (b : Blocker) (marks : List ℕ) : Type 0 where
  pub met : Meets (chosen_for s.terms) s.table.image.now s.place i b
  pub held : Kept (chosen_for s.terms) (looked s.terms) s.table.image.now i marks

-- of the one that is kept, if there is one
abbrev pub Held : Study → Option Blocker → List ℕ → Type 0
Held s kept marks = IfSome kept (λ b. Known s (b.mark - 1) b marks)

-- the same of one station, where that of another is kept
pub record Meeting (s : Study) (squares : List (List (List ℕ))) (i : ℕ) (kept : Option Blocker) (marks : List ℕ) : Type 0 where
  pub squared : squares ≡ squared_limits (chosen_for s.terms)
  pub within : i < count s.table.image.now
  pub held : Held s kept marks

-- the rows of new channels, by their marks
pub record Planning (s : Study) (squares : List (List (List ℕ))) (channels : Channels) (marks : List ℕ) (moves : List (List Bool)) : Type 0 where
  pub squared : squares ≡ squared_limits (chosen_for s.terms)
  pub asked : Asked channels
  pub marked : Marked (scene_in s).new channels.first channels.last (count s.table.image.now) marks
  pub down : Down channels.first channels.first moves
  pub room : Room channels moves
