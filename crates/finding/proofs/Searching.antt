-- The first of a table's stations that passes a test, found by a walk over the positions. Assumes nothing.
use Rattle.std.specs.Prelude.{Option, Some, None}
use mathlib.Core.Path.{◌≡◌, refl, ◌∙◌}
use mathlib.Core.Bool.{Bool, true, false}
use mathlib.Core.List.{List}
use Prim.Native.Nat.{ℕ, zero, suc, ◌+◌, ◌≤◌, ◌<◌}
use native.Mathlib.Omega.{arith}
use lib.ListN.{length, drop}
use borrow.Author.Tests.{lt-ltb, le-ltb}
use Rattle.ground.specs.Guard.{given}
use Rattle.ground.specs.Lists.{some, first}
use Rattle.ground.proofs.Firsts.{some_first}
use Rattle.ground.specs.Passing.{Passing}
use Rattle.part73.specs.Standards.{by_table_a, chosen}
use Rattle.stations.specs.Image.{station_at, stations, count, Accepted}
use Rattle.stations.specs.declared.Station.{Station}
use Rattle.stations.proofs.Whole.{whole, length-stations, first_here, first_on, first_end}
use Rattle.survey.specs.Ways.{as_it_stands, looked, chosen_for}
use Rattle.survey.specs.Walking.{blocks}
use Rattle.survey.specs.declared.Terms.{Terms}
use Rattle.nearby.specs.Positions.{NextShort}
use Rattle.finding.specs.Conflicts.{conflicts}
use Rattle.finding.specs.Asking.{first_of}

module _ (s : List ℕ) (e : Accepted s) where
  module _ (p : Station → Bool) where
    -- d of them that do not, passed over
    skip : (d i to : ℕ) → i + d ≡ to → to ≤ count s → ((j : ℕ) → i ≤ j → j < to → p (station_at s j) ≡ false) → i + first p (drop i (stations s)) ≡ to + first p (drop to (stations s))
    skip zero i to k h f = let e : i ≡ to = omega arith in rw e
    skip (suc d) i to k h f =
        first_on (whole s (count s) e) p i (omega arith) (f i (omega arith) (omega arith))
        ∙ skip d (i + 1) to (omega arith) h (λ j l u. f j (omega arith) u)

    -- nobody before it passes, and it does
    found : (to : ℕ) → Passing (λ j. p (station_at s j) ≡ false) (count s) 0 to → to < count s → p (station_at s to) ≡ true → ◌≡◌ {A = Option ℕ} (Some to) (first_of p (stations s))
    unfolding first_of given
    found to w l h =
        let q : first p (stations s) ≡ to = omega (arith, skip to 0 to (omega arith) w.upto w.each_one, first_here (whole s (count s) e) p to l h) in
        let t : some p (stations s) ≡ true = some_first p (stations s) ∙ rw q (lt-ltb to (length (stations s)) (omega (arith, length-stations (whole s (count s) e)))) in
        rw (t, q) refl

    -- nobody passes
    none : Passing (λ j. p (station_at s j) ≡ false) (count s) 0 (count s) → ◌≡◌ {A = Option ℕ} None (first_of p (stations s))
    unfolding first_of given
    none w =
        let q : first p (stations s) ≡ count s = omega (arith, skip (count s) 0 (count s) (omega arith) w.upto w.each_one, first_end (whole s (count s) e) p (count s) (omega arith)) in
        let t : some p (stations s) ≡ false = some_first p (stations s) ∙ rw q (le-ltb (count s) (length (stations s)) (omega (arith, length-stations (whole s (count s) e)))) in
        rw t refl

  -- all but the station's own record, by Table A
  abbrev pub others : Station → Terms
  others r = record { aside = r.id; standard = by_table_a }

  -- so the next one that is looked at and short, from the start on, is the first that stands in the way
  pub first_found : (r : Station) (answer : Option ℕ) → NextShort (chosen_for (others r)) (looked (others r)) s (as_it_stands r) 0 answer → answer ≡ first_of (conflicts r) (stations s)
  unfolding conflicts blocks looked chosen given
  first_found r (Some to) w = found (conflicts r) to w.0 w.1 w.2
  first_found r None w = none (conflicts r) w
