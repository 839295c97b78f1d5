-- (Ok tt) records are passed over. Assumes nothing.
use Rattle.refusals.specs.Faults.{Verdict}
use Rattle.std.specs.Prelude.{Ok}
use mathlib.Core.Path.{◌≡◌, refl, sym, ◌∙◌, ap}
use mathlib.Core.Bool.{Bool, true, false, false≢true}
use mathlib.Core.List.{List}
use Prim.Native.Nat.{ℕ, ◌+◌, ◌*◌, ◌/◌, ◌≤◌, ◌<◌}
use native.Mathlib.Numerals.{add-one}
use native.Mathlib.Omega.{arith}
use Rattle.wire.specs.Be.{be}
use Rattle.versions.specs.Version.{top}
use Rattle.stations.specs.Image.{station_from, station_at, version, count, verdict, scanned}
use Rattle.stations.specs.Scanning.{id_before, scanned_from, Topped, Ahead, Passed}
use Rattle.stations.specs.declared.Station.{Station}
use Rattle.stations.proofs.Whole.{whole_headed, scan_on}
use Rattle.stations.proofs.Fine.{fine_of}
use Rattle.stations.proofs.Back.{sound}

module _ (s : List ℕ) where
  pub record_at : (at : ℕ) → at ≡ 8 + 16 * (at / 16) → station_from s at ≡ station_at s (at / 16)
  unfolding station_at
  record_at at e = ap (station_from s) e

  -- the id of a record is the one before the next place
  pub id_next : (at to : ℕ) → at ≡ 8 + 16 * (at / 16) → to ≡ at + 16 → be 4 s at ≡ id_before s (to / 16)
  id_next at to e f =
      let k : to / 16 ≡ at / 16 + 1 = omega (arith, e, f) in
      rw (k, add-one) (ap (λ r. r.id) (record_at at e))

  pub ahead_next : (t k at to id : ℕ) → Topped s t → at ≡ 8 + 16 * (at / 16) → at / 16 + 1 + k ≤ count s → to ≡ at + 16 → id ≡ be 4 s at → Ahead s t k to id
  ahead_next t k at to id p e h f g = record {
    topped = p;
    placed = omega (arith, e, f);
    within = omega (arith, e, f, h);
    before = g ∙ id_next at to e f;
  }

  pub none_passed : (i k : ℕ) → Passed s i k false
  none_passed i k = record { sound = λ e. absurd (false≢true e) }

  -- sound records, and the next one
  pub more_passed : (i j k : ℕ) (b : Bool) → j ≡ i + k → Passed s i k true → Passed s j 1 b → Passed s i (k + 1) b
  more_passed i j k b e p q =
      let f : j + 1 ≡ i + (k + 1) = omega (arith, e) in
      record { sound = λ t. p.sound refl ∙ ap (scanned_from s) (sym e) ∙ q.sound t ∙ ap (scanned_from s) f }

  pub sound-start : scanned s ≡ scanned_from s 0
  unfolding scanned scanned_from
  sound-start = refl

pub one_passed : {s : List ℕ} (t at last : ℕ) (r : Station) (v : Verdict) → Ahead s t 1 at last → r ≡ station_from s at → v ≡ verdict t last 0 r → v ≡ (Ok tt) → Passed s (at / 16) 1 true
unfolding scanned_from
one_passed {s} t at last r v a er ev e =
    let i = at / 16 in
    let q : r ≡ station_at s i = er ∙ record_at s at a.placed in
    let y : verdict t last 0 r ≡ (Ok tt) = sym ev ∙ e in
    let z : verdict (top (version s)) (id_before s i) 0 (station_at s i) ≡ (Ok tt) = rw (a.topped.flags, a.before, q) at y in
    let h : i < count s = omega (arith, a.within) in
    let b : id_before s (i + 1) ≡ (station_at s i).id = rw add-one in
    let f = fine_of _ _ 0 _ z in
    record { sound = λ _. rw b (scan_on (whole_headed s a.topped.headed) (top (version s)) i (id_before s i) h (sym (sound _ _ i _ f.0 f.1))) }
