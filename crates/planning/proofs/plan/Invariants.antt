use mathlib.Core.Path.{◌≡◌}
use mathlib.Core.Bool.{Bool}
use mathlib.Core.List.{List}
use Prim.Native.Nat.{ℕ}
use lib.ListN.{length}
use Rattle.std.specs.Prelude.{Option}
use Rattle.survey.specs.declared.walk.Study.{Study}
use Rattle.planning.specs.Flags.{Planned}
use Rattle.planning.specs.Planning.{scene_in, Held}
use Rattle.planning.specs.declared.Blocker.{Blocker}
use Rattle.planning.proofs.plan.Given as goal

-- where the rows of the new channels before c are done
pub record Turns (s : Study) (first : ℕ) (moves₀ moves : List (List Bool)) (kept : List ℕ) (blocker : Option Blocker) (c : ℕ) : Type 0 where
  pub long : length moves ≡ length moves₀
  pub held : Held s blocker kept
  pub planned : Planned (scene_in s) first c moves

abbrev pub invariant-loop-c : goal.invariant-loop-c
invariant-loop-c l = Turns l.study l.channels.first l.initial.moves l.moves l.kept l.blocker l.c
