-- The new channels, asked for in one range or another: what is refused for one is refused for all, and what is granted are the
-- rows of each. Assumes nothing.
use Rattle.refusals.specs.Faults.{Verdict, Answer}
use Rattle.std.specs.Prelude.{Ok, Err}
use mathlib.Core.Path.{◌≡◌, refl}
use mathlib.Core.Bool.{Bool, true, false, cond}
use mathlib.Core.List.{List}
use Prim.Native.Nat.{ℕ}
use native.Mathlib.Omega.{arith}
use lib.Dec.{ltb}
use lib.ListN.{length, drop}
use borrow.Author.Tests.{le-ltb}
use Rattle.ground.specs.Guard.{given}
use Rattle.part73.specs.Channels.{lowest, highest}
use Rattle.stations.specs.Image.{then, stations, judged}
use Rattle.survey.specs.Ways.{studied, chosen_for}
use Rattle.marking.specs.Marks.{Asked}
use Rattle.marking.specs.declared.Channels.{Channels}
use Rattle.survey.specs.declared.Terms.{Terms}
use Rattle.desk.specs.Answers.{Outcome, grant, deny, on_table, on_asked}
use Rattle.desk.specs.Asked.{class_fault, kind_fault, site_fault}
use Rattle.studies.specs.Studies.{asked, standard_fault, wanted_fault, aside_fault, study_fault, study}
use Rattle.arrangements.specs.Arrange.{rows_for, arranged_for}
use Rattle.asking.specs.Asking.{ends_early, past, wanted_of, arrange_input}

-- new channels that may be asked for are never what is refused
asked_in : {c : Channels} → Asked c → (class zone : ℕ) → kind_fault c.first c.last class zone ≡ class_fault class zone
unfolding kind_fault given
asked_in {c} r class zone =
    rw (
      le-ltb c.first lowest r.low,
      le-ltb highest c.first (omega (arith, r.some, r.high)),
      le-ltb c.last lowest (omega (arith, r.low, r.some)),
      le-ltb highest c.last r.high,
      le-ltb c.last c.first r.some,
    )

-- the rows of a range
unfoldable pub rows_of : Terms → List ℕ → ℕ → ℕ → List ℕ
rows_of t input first last = rows_for (asked (wanted_of first last t input)) first last (chosen_for t) (studied t (stations (drop 10 input)))

-- an outcome with other rows
abbrev pub regrant : List ℕ → Outcome → Outcome
regrant vs (grant ws) = grant vs
regrant vs (deny f) = deny f

by_stage : (b : Bool) (j : Answer) (v : Verdict) (xs ys : List ℕ) → cond b ends_early (on_table j (on_asked v (grant ys))) ≡ regrant ys (cond b ends_early (on_table j (on_asked v (grant xs))))
by_stage true j v xs ys = refl
by_stage false (Err f) v xs ys = refl
by_stage false (Ok n) (Err f) xs ys = refl
by_stage false (Ok n) (Ok tt) xs ys = refl

pub alike : {c d : Channels} → Asked c → Asked d → (t : Terms) (input : List ℕ) → arrange_input d.first d.last t input ≡ regrant (rows_of t input d.first d.last) (arrange_input c.first c.last t input)
unfolding arrange_input arranged_for study study_fault wanted_fault past given rows_of
alike {c} {d} r q t input =
    let s = drop 10 input in
    let w = wanted_of c.first c.last t input in
    rw (asked_in r w.class w.zone, asked_in q w.class w.zone)
    (by_stage (ltb (length input) 10) (judged s) (then (then (class_fault w.class w.zone) (then (standard_fault t.standard) (site_fault w.latitude w.longitude))) (aside_fault t.aside (stations s))) (rows_of t input c.first c.last) (rows_of t input d.first d.last))
