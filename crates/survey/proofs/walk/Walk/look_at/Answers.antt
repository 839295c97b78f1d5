use mathlib.Core.Path.{◌≡◌, sym, ap, ◌∙◌}
use mathlib.Core.Bool.{false}
use Prim.Native.Nat.{ℕ, ◌≤◌}
use native.Mathlib.Omega.{arith}
use Rattle.part73.proofs.Chosen.{chosen-table}
use Rattle.spacing.specs.Pair.{sited}
use Rattle.spacing.specs.Reaching.{InRange, Reaches}
use Rattle.spacing.proofs.Reaching.{falling, reaches}
use Rattle.spacing.proofs.Untruncated.{untruncated}
use Rattle.stations.specs.Image.{station_at}
use Rattle.survey.specs.Ways.{place_of, looked, chosen_for}
use Rattle.survey.specs.Walking.{blocks}
use Rattle.marking.specs.Marks.{Struck}
use Rattle.survey.proofs.Records.{Known, known_at, few}
use Rattle.marking.proofs.Marks.{struck_none, struck_as, struck_part}
use Rattle.survey.proofs.Shorts.{walk-limited, hit_at, untouched_at, blocks-looked, blocks_aside, blocks-spaced}
use Rattle.survey.proofs.walk.Walk.look_at.Goals as goal
use Rattle.survey.proofs.walk.Walk.look_at.Goals.{After-looks, After-place_of-theirs, After-reach_at-reach, Start, then-apart-via-then-apart, then-apart-via-else-apart+then-not-looks}

known : (s : Start) → Known (station_at s.args.self.now.study.table.image.now s.args.i)
known s = known_at _ s.args.self.now.study.table.accepted s.args.i s.requires.1

-- the record's class and site
theirs : (c : After-place_of-theirs) → c.place_of-theirs.result ≡ place_of (station_at c.args.self.now.study.table.image.now c.args.i)
theirs c = c.place_of-theirs.ensures ∙ ap place_of c.station_at-r.ensures

-- they are in range
there : (c : After-place_of-theirs) → InRange c.place_of-theirs.result
there c = rw (theirs c) (known_at _ c.args.self.now.study.table.accepted _ c.requires.1).placed

-- a record that stands in nobody's way marks nothing
nobody : (s : Start) → let t = s.args.self.now.study in
    ((m : ℕ) → s.args.channels.first ≤ m → m ≤ s.args.channels.last → blocks (chosen_for t.terms) (looked t.terms) t.table.image.now (sited t.place m) s.args.i ≡ false)
    → Struck (λ m. blocks (chosen_for t.terms) (looked t.terms) t.table.image.now (sited t.place m) s.args.i) s.args.channels.first s.args.channels.last s.args.i s.args.marks.now s.args.marks.now
nobody s f = struck_as (λ m lo hi. sym (f m lo hi)) (struck_none _ _ _ _ s.told-marks)

pub touches-requires : goal.touches-requires
touches-requires c = let k = known (goal.at.touches-requires c).Start in
    rw c.station_at-r.ensures (k.low, k.high, c.requires.0.high)

pub returns-then-not-touches : goal.returns-then-not-touches
returns-then-not-touches c = let far = rw c.station_at-r.ensures at (c.touches.ensures.none_of c.if-not-touches.true) in
    nobody (goal.at.returns-then-not-touches c).Start (λ m lo hi. blocks-spaced _ _ _ _ _ (sym (untouched_at (chosen-table _) c.args.self.now.study.placed (known (goal.at.returns-then-not-touches c).Start).placed m _ (omega (arith, c.requires.0.low)) (far m lo hi))))

pub apart-requires : goal.apart-requires
apart-requires c = (c.args.self.now.study.placed, there (goal.at.apart-requires c).After-place_of-theirs)

pub returns-then-apart : goal.returns-then-apart
returns-then-apart c =
    elim c.then-apart.branch [
      | then-apart-via-then-apart w ↦
          let far = rw (theirs (goal.at.returns-then-apart c).After-place_of-theirs) at (c.apart.ensures _ (walk-limited c.args.self.now.study.terms.standard c.args.self.now.held)) in
          nobody (goal.at.returns-then-apart c).Start (λ m lo hi. blocks-spaced _ _ _ _ _ (far.tells w.if-apart.true m _))
      | then-apart-via-else-apart+then-not-looks w ↦
          nobody (goal.at.returns-then-apart c).Start (λ m lo hi. blocks_aside _ _ _ _ _ (sym (w.looks.ensures ∙ ap (looked c.args.self.now.study.terms) c.station_at-r.ensures) ∙ w.if-not-looks.true))
    ]

pub square_between-s-requires : goal.square_between-s-requires
square_between-s-requires c = (c.args.self.now.study.placed, there (goal.at.square_between-s-requires c).After-place_of-theirs)

pub reach_at-reach-requires : goal.reach_at-reach-requires
reach_at-reach-requires c = (there (goal.at.reach_at-reach-requires c).After-place_of-theirs).known

-- how far the two reach
reached : (c : After-reach_at-reach) → InRange c.place_of-theirs.result → Reaches (chosen_for c.args.self.now.study.terms) c.args.self.now.study.place c.place_of-theirs.result c.reach_at-reach.result
reached c q =
    let w = c.args.self.now in
    let table = chosen-table w.study.terms.standard in
    let limits = untruncated w.held in
    reaches table limits w.study.placed q (rw c.square_between-s.ensures at (c.reach_at-reach.ensures (falling table limits w.study.placed q)))

pub overflow_cast-i : goal.overflow_cast-i
overflow_cast-i c = omega (arith, few _ c.args.self.now.study.table.accepted, c.requires.1)

pub strike-requires : goal.strike-requires
strike-requires c = let k = known (goal.at.strike-requires c).Start in
    rw c.station_at-r.ensures (omega (arith, few _ c.args.self.now.study.table.accepted, c.requires.1), k.low, k.high, (reached (goal.at.strike-requires c).After-reach_at-reach (there (goal.at.strike-requires c).After-place_of-theirs)).most)

pub returns : goal.returns
returns c = let s = c.args.self.now.study in
    let at = goal.at.returns c in
    let far = rw (theirs at.After-place_of-theirs) at (reached at.After-reach_at-reach (there at.After-place_of-theirs)) in
    struck_part c.requires.0.low c.requires.0.high
    (struck_as (λ m lo hi. hit_at far m _ lo ∙ blocks-looked (chosen_for s.terms) (looked s.terms) s.table.image.now (sited s.place m) c.args.i (sym (c.looks.ensures ∙ ap (looked s.terms) c.station_at-r.ensures) ∙ c.if-not-looks.false))
    (rw c.station_at-r.ensures at c.strike.ensures))
