-- What a judged table says of each of its records. Assumes nothing.
use Rattle.std.specs.Prelude.{Ok}
use mathlib.Core.Path.{◌≡◌}
use mathlib.Core.Logic.{⊎_elim}
use mathlib.Core.List.Memᴰ
use mathlib.Core.List.{List, [], ◌∷◌}
use Prim.Native.Nat.{ℕ, ◌+◌, ◌≤◌, ◌<◌}
use native.Mathlib.Omega.{arith}
use lib.IntN.{nat_abs}
use borrow.Author.Tests.{ltb-false, leb-true, leb-false}
use Rattle.ground.specs.Lists.{◌∈◌}
use Rattle.ground.proofs.Guards.{past, or_was, not_was}
use Rattle.ground.proofs.Order.{none, ahead}
use Rattle.ground.proofs.Positions.{in_at}
use Rattle.distance.specs.Distance.{latitude_ok, longitude_ok, Placed}
use Rattle.versions.specs.Version.{top}
use Rattle.stations.specs.Image.{station_at, stations, version, verdict, scan, scanned, judged}
use Rattle.stations.specs.declared.Station.{Station}
use Rattle.stations.proofs.Ids.{Ascends}
use Rattle.stations.proofs.Stages.{unsound, then-sound, scanned-passed}
use Rattle.stations.proofs.Whole.{whole, next}

-- a record that may stand in a table with flags up to t
pub record Fine (t : ℕ) (r : Station) : Type 0 where
  pub counts : 0 < r.id
  pub low : 201 ≤ r.channel
  pub high : r.channel ≤ 300
  pub class : r.class ≤ 7
  pub flags : r.flags ≤ t
  pub placed : Placed r.latitude r.longitude

-- a record without a fault is such a one, with an id above the last
pub fine_of : (t last i : ℕ) (r : Station) → verdict t last i r ≡ (Ok tt) → (last < r.id) × Fine t r
unfolding verdict latitude_ok longitude_ok
fine_of t last i r e =
    let a = past _ _ _ _ e (unsound _) in
    let b = past _ _ _ _ a.1 (unsound _) in
    let c = past _ _ _ _ b.1 (unsound _) in
    let d = past _ _ _ _ c.1 (unsound _) in
    let f = past _ _ _ _ d.1 (unsound _) in
    let g = past _ _ _ _ f.1 (unsound _) in
    let ch = or_was _ _ b.0 in
    let above = leb-false r.id last a.0 in (
      above,
      record {
        counts = omega arith;
        low = ltb-false r.channel 201 ch.0;
        high = ltb-false 300 r.channel ch.1;
        class = ltb-false 7 r.class c.0;
        flags = ltb-false t r.flags d.0;
        placed = record {
          north = leb-true (nat_abs r.latitude) 270000 (not_was _ f.0);
          east = leb-true (nat_abs r.longitude) 648000 (not_was _ g.0);
        };
      },
    )

-- records that make a table with flags up to t
pub record Good (t : ℕ) (rs : List Station) : Type 0 where
  pub each : (x : Station) → x ∈ rs → Fine t x
  pub ascends : Ascends rs

-- ids above the one before the list
abbrev pub Over : ℕ → List Station → Type 0
Over last rs = (x : Station) → x ∈ rs → last < x.id

scan_good : (rs : List Station) (t i last : ℕ) → scan t i last rs ≡ (Ok tt) → Over last rs × Good t rs
unfolding scan
scan_good [] t i last e = (λ x m. absurd (Memᴰ.not-nil m), record { each = λ x m. absurd (Memᴰ.not-nil m); ascends = none })
scan_good (r ∷ rs) t i last e =
    let y = then-sound (verdict t last i r) _ e in
    let f = fine_of t last i r y.0 in
    let k = scan_good rs t (i + 1) r.id y.1 in
    let l = f.0 in (
      λ x m. ⊎_elim (λ (q : x ≡ r). rw q l) (λ (o : x ∈ rs). omega (arith, k.0 x o)) (Memᴰ.cases_cons m),
      record {
        each = λ x m. ⊎_elim (λ (q : x ≡ r). rw q f.1) (λ (o : x ∈ rs). k.1.each x o) (Memᴰ.cases_cons m);
        ascends = ahead k.0 k.1.ascends;
      },
    )

pub good : (s : List ℕ) (n : ℕ) → judged s ≡ Ok n → Good (top (version s)) (stations s)
unfolding scanned
good s n e = (scan_good (stations s) (top (version s)) 0 0 (scanned-passed s n e)).1

-- every record of the table is fine
pub fine_at : (s : List ℕ) (n : ℕ) → judged s ≡ Ok n → (i : ℕ) → i < n → Fine (top (version s)) (station_at s i)
fine_at s n e i h = (good s n e).each (station_at s i) (in_at (stations s) i _ (next (whole s n e) i h))
