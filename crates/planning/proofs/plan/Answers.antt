use mathlib.Core.Path.{◌≡◌, subst, ◌∙◌}
use mathlib.Core.Bool.{Bool}
use mathlib.Core.List.{List}
use Prim.Native.Nat.{ℕ, ◌+◌, ◌-◌, ◌≤◌, ◌<◌}
use native.Mathlib.Omega.{arith}
use lib.ListN.{length}
use Rattle.std.specs.Prelude.{Option}
use Rattle.part73.specs.Channels.{lowest}
use Rattle.stations.specs.Image.{count}
use Rattle.survey.specs.declared.walk.Study.{Study}
use Rattle.marking.specs.Marks.{mark_of, seen}
use Rattle.planning.specs.Scene.{scene}
use Rattle.planning.specs.Flags.{Right}
use Rattle.planning.specs.Planning.{scene_in, Known, Held}
use Rattle.planning.specs.declared.Blocker.{Blocker}
use Rattle.planning.proofs.Rowing.{Turned, turned, unturned}
use Rattle.planning.proofs.Going.{marks_one, right_kept, right-down, plan_turn}
use Rattle.planning.proofs.plan.Invariants.{Turns}
use Rattle.planning.proofs.plan.Goals as goal
use Rattle.planning.proofs.plan.Goals.{In-loop-c, in-Some, in_default}

-- what is known of a station, under its own mark
itself : {s : Study} {i : ℕ} {b : Blocker} {kept : List ℕ} → Known s i b kept → Known s (b.mark - 1) b kept
itself {s} {i} {b} {kept} k =
    let e : i ≡ b.mark - 1 = omega (arith, k.met.mark) in
    subst (λ (x : ℕ). Known s x b kept) e k

-- one more
next : {s : Study} {first : ℕ} {moves₀ moves moves' : List (List Bool)} {row : List Bool} {kept kept' : List ℕ} {blocker blocker' : Option Blocker} {c v : ℕ} → Turns s first moves₀ moves kept blocker c → first ≤ c → Turned first c row moves moves'
    → Held s blocker' kept' → v ≡ seen ((scene_in s).new c) (count s.table.image.now) → Right (scene_in s) c v row → Turns s first moves₀ moves' kept' blocker' (c + 1)
unfolding scene
next i low u k e r = record { long = u.long ∙ i.long; held = k; planned = plan_turn low i.planned u e r }

-- the mark of the new channel
mark : (c : In-loop-c) → mark_of c.args.marks.now c.loop-c.c ≡ seen ((scene_in c.args.study.now).new c.loop-c.c) (count c.args.study.now.table.image.now)
mark c = c.requires.marked.at c.loop-c.c (omega arith) (omega arith)

pub mover-requires : goal.mover-requires
mover-requires c = let s = c.args.study.now in
    marks_one _ s.terms s.place c.loop-c.c (mark (goal.at.mover-requires c).In-loop-c)

pub loop-c-preserved : goal.loop-c-preserved
loop-c-preserved c =
    let i = c.loop-c.invariant in
    let s = c.args.study.now in
    let first : c.args.channels.first ≤ c.loop-c.c = omega arith in
    let e = mark (goal.at.loop-c-preserved c).In-loop-c in
    elim c.match-mover.branch [
      | in-Some w ↦
          let within : c.loop-c.c - c.args.channels.first < length c.loop-c.moves = omega (arith, i.long, c.requires.room) in
          let low : lowest ≤ c.loop-c.c = omega (arith, c.requires.asked.low) in
          let b = w.blocker_at-one.ensures in
          let m = w.in-Some.ensures in
          rw (w.moves-is, w.kept-is, w.blocker-is)
          (next i first (turned _ _ first within) (itself b) e (right_kept _ _ _ _ e s.table.accepted low m.0 m.1 b.held b.met w.fill_row.ensures))
      | in_default w ↦ rw (w.moves-is, w.kept-is, w.blocker-is)
          (next i first (unturned _) i.held e (right-down _ _ _ _ e w.in_default.ensures (i.planned.down.at _ (omega arith))))
    ]
