-- A table with a right header: its length, and its records one after the other. What every loop over the records cites.
-- Assumes nothing.
use Rattle.refusals.specs.declared.Fault.{Fault}
use Rattle.std.specs.Prelude.{Ok, Err}
use mathlib.Core.Path.{◌≡◌, refl, ◌∙◌}
use mathlib.Core.List.{List, [], ◌∷◌}
use mathlib.Core.Bool.{Bool, true, false}
use Prim.Native.Nat.{ℕ, ◌+◌, ◌*◌, ◌≤◌, ◌<◌}
use native.Mathlib.Numerals.{add-one}
use native.Mathlib.Omega.{arith}
use lib.Dec.{eqb}
use lib.ListN.{length, get_or, drop, drop_of_length-le}
use borrow.Author.Tests.{eqb-true}
use Rattle.ground.specs.Lists.{first}
use Rattle.ground.proofs.Guards.{past, not_was, and_was}
use Rattle.ground.proofs.Built.{length-build, drop-build}
use Rattle.versions.specs.Version.{carries, limit}
use Rattle.versions.proofs.Versions.{few, called}
use Rattle.stations.specs.Image.{station_at, stations, version, count, verdict, scan, numbers, headed, judged, Headed}
use Rattle.stations.specs.Encode.{version_of}
use Rattle.stations.specs.declared.Station.{Station}
use Rattle.stations.proofs.Stages.{unsound, counted, headed-passed}

abbrev pub Marked : List ℕ → Type 0
Marked s = (get_or s 0 0 ≡ 70) × (get_or s 1 0 ≡ 77) × (get_or s 2 0 ≡ 83)

pub record Whole (s : List ℕ) (n : ℕ) : Type 0 where
  pub mark : Marked s
  pub ranged : carries (version s) n ≡ true
  pub blank : get_or s 5 0 ≡ 0
  pub counted : count s ≡ n
  pub long : length s ≡ 8 + 16 * n
  pub few : n ≤ limit

module _ {s : List ℕ} {n : ℕ} (w : Whole s n) where
  pub length-stations : length (stations s) ≡ n
  unfolding stations
  length-stations = length-build (count s) (station_at s) ∙ w.counted

  -- the version is the one that the stations call for
  pub version_called : version s ≡ version_of (stations s)
  unfolding version_of
  version_called = rw length-stations (called (version s) n w.ranged)

  -- the next record, and those after it
  pub next : (i : ℕ) → i < n → drop i (stations s) ≡ station_at s i ∷ drop (i + 1) (stations s)
  unfolding stations
  next i h = rw (add-one, drop-build (count s) (station_at s) i (omega (arith, w.counted)))

  -- none is left
  pub done : (i : ℕ) → n ≤ i → drop i (stations s) ≡ []
  done i h = drop_of_length-le (stations s) {i = i} (omega (arith, length-stations))

  -- a sound record: those after it are judged
  pub scan_on : (t i last : ℕ) → i < n → verdict t last i (station_at s i) ≡ (Ok tt) → scan t i last (drop i (stations s)) ≡ scan t (i + 1) (station_at s i).id (drop (i + 1) (stations s))
  unfolding scan
  scan_on t i last h e = rw (next i h, e)

  -- a faulty one: that is the judgement
  pub scan_stop : (t i last : ℕ) (f : Fault) → i < n → verdict t last i (station_at s i) ≡ Err f → scan t i last (drop i (stations s)) ≡ Err f
  unfolding scan
  scan_stop t i last f h e = rw (next i h, e)

  pub scan_end : (t i last : ℕ) → n ≤ i → scan t i last (drop i (stations s)) ≡ (Ok tt)
  unfolding scan
  scan_end t i last e = rw (done i e)

  -- the first record that passes p, looked for from i on
  pub first_here : (p : Station → Bool) (i : ℕ) → i < n → p (station_at s i) ≡ true → first p (drop i (stations s)) ≡ 0
  unfolding first
  first_here p i h e = rw (next i h, e)

  pub first_on : (p : Station → Bool) (i : ℕ) → i < n → p (station_at s i) ≡ false → i + first p (drop i (stations s)) ≡ i + 1 + first p (drop (i + 1) (stations s))
  unfolding first
  first_on p i h e = rw (next i h, e) (omega arith)

  pub first_end : (p : Station → Bool) (i : ℕ) → n ≤ i → first p (drop i (stations s)) ≡ 0
  unfolding first
  first_end p i h = rw (done i h)

whole_numbers : (s : List ℕ) → Marked s → numbers s ≡ (Ok tt) → Whole s (count s)
unfolding numbers
whole_numbers s m e =
    let a = past _ _ _ _ e (unsound _) in
    let b = past _ _ _ _ a.1 (unsound _) in
    let c = past _ _ _ _ b.1 (unsound _) in
    let d = past _ _ _ _ c.1 (unsound _) in
    let r : carries (version s) (count s) ≡ true = not_was _ c.0 in
    record {
      mark = m;
      ranged = r;
      blank = eqb-true (get_or s 5 0) 0 (not_was _ b.0);
      counted = refl;
      long = eqb-true (length s) (8 + 16 * count s) (not_was _ d.0);
      few = few (version s) (count s) r;
    }

-- a right header
pub whole_headed : (s : List ℕ) → Headed s → Whole s (count s)
unfolding headed
whole_headed s e =
    let a = past _ _ _ _ (past _ _ _ _ e (unsound _)).1 (unsound _) in
    let m = and_was _ (eqb (get_or s 2 0) 83) (not_was _ a.0) in
    let l = and_was (eqb (get_or s 0 0) 70) (eqb (get_or s 1 0) 77) m.0 in
    whole_numbers s (eqb-true (get_or s 0 0) 70 l.0, eqb-true (get_or s 1 0) 77 l.1, eqb-true (get_or s 2 0) 83 m.1) a.1

-- an accepted table
pub whole : (s : List ℕ) (n : ℕ) → judged s ≡ Ok n → Whole s n
whole s n e = rw (counted s n e) at (whole_headed s (headed-passed s n e))
