use Rattle.refusals.specs.Faults.{Answer}
use mathlib.Core.Path.{◌≡◌, subst}
use mathlib.Core.List.{List}
use Prim.Native.Nat.{ℕ}
use native.Mathlib.Omega.{arith}
use Rattle.stations.specs.Image.{count}
use Rattle.marking.specs.Marks.{Marked}
use Rattle.desk.specs.Answers.{grant, Answered}
use Rattle.planning.specs.Planning.{scene_in}
use Rattle.planning.proofs.Going.{marks_one}
use Rattle.arrangements.proofs.Blank.{blank}
use Rattle.arrangements.proofs.Unique.{as_new, rows_of}
use Rattle.arrangements.proofs.answering.list_with.Goals as goal
use Rattle.arrangements.proofs.answering.list_with.Goals.{After-survey}

-- the same rows, in another form
answered-as : {vs ws entry exit : List ℕ} {r : Answer} → vs ≡ ws → Answered (grant vs) entry exit r → Answered (grant ws) entry exit r
answered-as {entry} {exit} {r} e a = subst (λ (xs : List ℕ). Answered (grant xs) entry exit r) e a

-- the marks are those of the new station
marked : (g : _) (c : After-survey g) → let s = c.args.study.now in Marked (scene_in s).new c.args.channels.first c.args.channels.last (count s.table.image.now) c.survey.new.marks
marked g c =
    let s = c.args.study.now in
    let w = c.by.ensures in
    as_new s.table.image.now s.terms s.place c.args.channels (rw (w.table, w.terms, w.place) at c.survey.ensures)

pub plan-requires : goal.plan-requires
plan-requires g c = let b = blank _ c.args.channels c.requires.enough in
    record { squared = c.squares_by-squares.ensures; asked = c.requires.asked; marked = marked g (goal.at.plan-requires g c).After-survey; down = b.0; room = b.1 }

pub invariant_of-findings : goal.invariant_of-findings
invariant_of-findings g c = let s = c.args.study.now in
    record {
      asked = c.requires.asked;
      surveyed = record { at = λ m lo hi. marks_one s.table.image.now s.terms s.place m ((marked g (goal.at.invariant_of-findings g c).After-survey).at m lo hi) };
      room = omega (arith, c.plan.auto, (blank g.row.N c.args.channels c.requires.enough).1);
    }

pub returns : goal.returns
returns g c = let s = c.args.study.now in
    answered-as (rows_of s.table.image.now s.terms s.place c.args.channels s.table.accepted (marked g (goal.at.returns g c).After-survey) c.plan.ensures) c.list_if_room.ensures
