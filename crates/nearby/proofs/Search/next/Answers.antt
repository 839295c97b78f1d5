use mathlib.Core.Path.{◌≡◌, sym, ◌∙◌}
use mathlib.Core.Bool.{true, false}
use native.Mathlib.Omega.{arith}
use Prim.Native.Nat.{ℕ, ◌+◌, ◌%◌, ◌<◌}
use lib.ListN.{get_or}
use Rattle.ground.proofs.Passes.{pass_start, pass_one, pass_on, pass_as}
use Rattle.part73.proofs.Chosen.{chosen-table}
use Rattle.spacing.specs.Pair.{sited}
use Rattle.spacing.proofs.Rule.{no_column}
use Rattle.stations.specs.Image.{station_at, count}
use Rattle.survey.specs.Ways.{looked, chosen_for}
use Rattle.survey.specs.Walking.{blocks}
use Rattle.survey.proofs.Records.{known_at, few}
use Rattle.survey.proofs.Shorts.{blocks-spaced}
use Rattle.nearby.specs.Positions.{Clear, Unheld}
use Rattle.nearby.proofs.Search.next.Goals as goal
use Rattle.nearby.proofs.Search.next.Goals.{Start}

-- records whose channels are free are not short
module _ (c : Start) where
  unheld : (i to : ℕ) → let s = c.args.self.now.walk.study in Unheld s.table.image.now c.args.self.now.free i to → Clear (chosen_for s.terms) (looked s.terms) s.table.image.now (sited s.place c.args.self.now.channel) i to
  unheld i to w = pass_as spaced w
    where
      spaced : (j : ℕ) → let s = c.args.self.now.walk.study in j < count s.table.image.now → get_or c.args.self.now.free ((station_at s.table.image.now j).channel % 256) false ≡ true → blocks (chosen_for s.terms) (looked s.terms) s.table.image.now (sited s.place c.args.self.now.channel) j ≡ false
      spaced j h e =
          let s = c.args.self.now.walk.study in
          let k = known_at _ s.table.accepted j h in
          blocks-spaced _ _ _ _ j (no_column (chosen-table _) _ _ s.placed k.placed _ _ (c.args.self.now.tells.tells _ k.low k.high e))

pub loop-i-init : goal.loop-i-init
loop-i-init c = pass_start c.requires

-- up to the next one whose channel is not free
pub returns-then-short_at : goal.returns-then-short_at
returns-then-short_at c = (
  pass_on c.loop-i.invariant (unheld (goal.at.returns-then-short_at c).Start _ _ c.in-Some.ensures.0),
  c.in-Some.ensures.1,
  sym c.short_at.ensures ∙ c.if-short_at.true,
)

pub overflow_add-from : goal.overflow_add-from
overflow_add-from c = omega (arith, few _ c.args.self.now.walk.study.table.accepted, c.in-Some.ensures.1)

pub loop-i-preserved : goal.loop-i-preserved
loop-i-preserved c = pass_one (pass_on c.loop-i.invariant (unheld (goal.at.loop-i-preserved c).Start _ _ c.in-Some.ensures.0)) (c.in-Some.i + 1) (omega arith) (omega (arith, c.in-Some.ensures.1)) (sym c.if-short_at.ensures)

pub returns : goal.returns
returns c = pass_on c.loop-i.invariant (unheld (goal.at.returns c).Start _ _ c.in_default.ensures)
