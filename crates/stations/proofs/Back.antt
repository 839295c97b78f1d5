-- The image of stations that may stand in a table is a table, and has those stations. Assumes nothing.
use Rattle.std.specs.Prelude.{Ok}
use mathlib.Core.Path.{◌≡◌, refl, sym, ◌∙◌, ap, ap₂}
use mathlib.Core.List.Memᴰ
use mathlib.Core.List.{List, [], ◌∷◌, ◌++◌, append_assoc}
use Prim.Native.Nat.{ℕ, zero, suc, ◌+◌, ◌*◌, ◌^◌, ◌≤◌, ◌<◌}
use native.Mathlib.Nat.{add-zero, zero-add}
use native.Mathlib.Omega.{arith}
use lib.IntN.{ℤ}
use lib.ListN.{length, get_or, length-append}
use lib.Seq.{get_or_at}
use mir.Syntax.{w32}
use mir.Val.{SFits, to_z, of_z}
use Rattle.ground.specs.Lists.{◌∈◌, build, each}
use Rattle.ground.proofs.Guards.{guards}
use Rattle.ground.proofs.Order.{ahead_of, rest_of}
use Rattle.ground.proofs.Signed.{fit32}
use Rattle.wire.specs.Be.{be, bytes}
use Rattle.wire.proofs.Width.{be-bytes, length-bytes}
use Rattle.wire.proofs.Sign.{signed-bytes}
use Rattle.distance.specs.Distance.{latitude_ok, longitude_ok}
use Rattle.versions.specs.Version.{top, limit}
use Rattle.versions.proofs.Versions.{carried, limit_small, version_small}
use Rattle.stations.specs.Image.{station_at, stations, count, headed, numbers, judged, scan, scanned, repeated, verdict, Headed}
use Rattle.stations.specs.Encode.{record_of, header_of, version_of, encode}
use Rattle.stations.specs.Lists.{twins, NoPair}
use Rattle.stations.specs.declared.Station.{Station}
use Rattle.stations.proofs.Stages.{all_passed}
use Rattle.stations.proofs.Whole.{Marked}
use Rattle.stations.proofs.Fine.{Fine, Good, Over}
use Rattle.stations.proofs.Repeats.{unrepeated}

-- a station whose fields fit their places in a record
pub record Sized (r : Station) : Type 0 where
  pub id : r.id < 2 ^ 32
  pub channel : r.channel < 2 ^ 16
  pub latitude : SFits w32 r.latitude
  pub longitude : SFits w32 r.longitude

abbrev pub AllSized : List Station → Type 0
AllSized rs = (x : Station) → x ∈ rs → Sized x

-- ids that fit 32 bits
abbrev pub SmallIds : List Station → Type 0
SmallIds rs = (x : Station) → x ∈ rs → x.id < 2 ^ 32

-- a fine record with such an id fits
pub fine_sized : {t : ℕ} (r : Station) → Fine t r → r.id < 2 ^ 32 → Sized r
fine_sized r f h =
    record {
      id = h;
      channel = omega (arith, f.high);
      latitude = fit32 r.latitude (omega (arith, f.placed.north));
      longitude = fit32 r.longitude (omega (arith, f.placed.east));
    }

-- k bytes of v that stand at `at`
field : (k v at : ℕ) (s p q : List ℕ) → s ≡ p ++ (bytes k v ++ q) → length p ≡ at → v < 256 ^ k → be k s at ≡ v
field k v at s p q e l h = rw (e, ← l) (be-bytes k v p q h)

signed_field : (z : ℤ) (at : ℕ) (s p q : List ℕ) → s ≡ p ++ (bytes 4 (of_z w32 z) ++ q) → length p ≡ at → SFits w32 z → to_z w32 (be 4 s at) ≡ z
signed_field z at s p q e l f = rw (e, ← l) (signed-bytes z p q f)

item : (v at : ℕ) (s p q : List ℕ) → s ≡ p ++ v ∷ q → length p ≡ at → get_or s at 0 ≡ v
item v at s p q e l = rw e (get_or_at p v q 0 at l)

pub length_record : (r : Station) → length (record_of r) ≡ 16
unfolding record_of
length_record r = simp (length-append, length-bytes)

-- a record that was written, read back
module _ (r : Station) (f : Sized r) (p q : List ℕ) (i : ℕ) (l : length p ≡ 8 + 16 * i) where
  pub record_read : station_at (p ++ (record_of r ++ q)) i ≡ r
  unfolding station_at record_of
  record_read =
      let at = 8 + 16 * i in
      let s : List ℕ = p ++ (record_of r ++ q) in
      let a = bytes 4 r.id in
      let c = bytes 2 r.channel in
      let x = of_z w32 r.latitude in
      let y = of_z w32 r.longitude in
      let tail = bytes 4 x ++ (bytes 4 y ++ q) in
      let p1 = p ++ a in
      let p2 = p1 ++ c in
      let p3 = p2 ++ (r.class ∷ []) in
      let p4 = p3 ++ (r.flags ∷ []) in
      let p5 = p4 ++ bytes 4 x in
      let e0 : be 4 s at ≡ r.id = field 4 r.id at s p (c ++ r.class ∷ r.flags ∷ tail) (simp append_assoc) l (omega (arith, f.id)) in
      let e1 : be 2 s (at + 4) ≡ r.channel = field 2 r.channel (at + 4) s p1 (r.class ∷ r.flags ∷ tail) (simp append_assoc) (simp (length-append, length-bytes) (omega arith)) (omega (arith, f.channel)) in
      let e2 : get_or s (at + 6) 0 ≡ r.class = item r.class (at + 6) s p2 (r.flags ∷ tail) (simp append_assoc) (simp (length-append, length-bytes) (omega arith)) in
      let e3 : get_or s (at + 7) 0 ≡ r.flags = item r.flags (at + 7) s p3 tail (simp append_assoc) (simp (length-append, length-bytes) (omega arith)) in
      let e4 : to_z w32 (be 4 s (at + 8)) ≡ r.latitude = signed_field r.latitude (at + 8) s p4 (bytes 4 y ++ q) (simp append_assoc) (simp (length-append, length-bytes) (omega arith)) f.latitude in
      let e5 : to_z w32 (be 4 s (at + 12)) ≡ r.longitude = signed_field r.longitude (at + 12) s p5 q (simp append_assoc) (simp (length-append, length-bytes) (omega arith)) f.longitude in
      rw (e0, e1, e2, e3, e4, e5) refl

build_cong : {A : Type 0} (n : ℕ) (f g : ℕ → A) → ((j : ℕ) → f j ≡ g j) → build n f ≡ build n g
unfolding build
build_cong zero f g h = refl
build_cong (suc n) f g h = rw (h zero, build_cong n (λ j. f (suc j)) (λ j. g (suc j)) (λ j. h (suc j)))

reads : (rs : List Station) (p : List ℕ) (i : ℕ) → length p ≡ 8 + 16 * i → AllSized rs → build (length rs) (λ j. station_at (p ++ each record_of rs) (i + j)) ≡ rs
unfolding build each
reads [] p i l m = refl
reads (r ∷ rs) p i l m =
    let body = each record_of rs in
    let head : station_at (p ++ (record_of r ++ body)) (i + 0) ≡ r = rw add-zero (record_read r (m r (Memᴰ.head refl)) p body i l) in
    let rest : build (length rs) (λ j. station_at ((p ++ record_of r) ++ body) (i + 1 + j)) ≡ rs =
    reads rs (p ++ record_of r) (i + 1) (simp (length-append, length_record) (omega (arith, l))) (λ x o. m x (Memᴰ.tail o)) in
    let same : (j : ℕ) → station_at (p ++ (record_of r ++ body)) (i + suc j) ≡ station_at ((p ++ record_of r) ++ body) (i + 1 + j) =
    λ j. let k : i + suc j ≡ i + 1 + j = omega arith in rw (append_assoc, k) in
    ap₂ (λ (x : Station) (xs : List Station). x ∷ xs) head (build_cong (length rs) _ _ same ∙ rest)

pub length_body : (rs : List Station) → length (each record_of rs) ≡ 16 * length rs
unfolding each
length_body [] = refl
length_body (r ∷ rs) = simp (length-append, length_record, length_body rs) (omega arith)

pub length-header : (v n : ℕ) → length (header_of v n) ≡ 8
unfolding header_of
length-header v n = simp (length-append, length-bytes)

pub length-encode : (rs : List Station) → length (encode rs) ≡ 8 + 16 * length rs
unfolding encode
length-encode rs = simp (length-append, length_body, length-header)

-- a fine record with an id above the last has no fault
pub sound : (t last i : ℕ) (r : Station) → last < r.id → Fine t r → (Ok tt) ≡ verdict t last i r
unfolding verdict latitude_ok longitude_ok
sound t last i r above f =
    let north = f.placed.north in
    let east = f.placed.east in
    search guards depth 14

scan_all : (rs : List Station) (t i last : ℕ) → Over last rs → Good t rs → scan t i last rs ≡ (Ok tt)
unfolding scan
scan_all [] t i last o g = refl
scan_all (r ∷ rs) t i last o g =
    let here = Memᴰ.head refl in
    let rest : Good t rs = record { each = λ x m. g.each x (Memᴰ.tail m); ascends = rest_of g.ascends } in
    rw (← sound t last i r (o r here) (g.each r here)) (scan_all rs t (i + 1) r.id (ahead_of g.ascends) rest)

module _ (rs : List Station) (few : length rs ≤ limit) where
  counted : count (encode rs) ≡ length rs
  unfolding encode header_of
  counted =
      field 2 (length rs) 6 (encode rs) (70 ∷ 77 ∷ 83 ∷ (bytes 2 (version_of rs) ++ 0 ∷ [])) (each record_of rs) (simp append_assoc) (simp (length-append, length-bytes)) (omega (arith, few, limit_small))

  version : be 2 (encode rs) 3 ≡ version_of rs
  unfolding encode header_of version_of
  version = field 2 (version_of rs) 3 (encode rs) (70 ∷ 77 ∷ 83 ∷ []) (0 ∷ (bytes 2 (length rs) ++ each record_of rs)) (simp append_assoc) refl (omega (arith, version_small (length rs)))

  blank : get_or (encode rs) 5 0 ≡ 0
  unfolding encode header_of
  blank = item 0 5 (encode rs) (70 ∷ 77 ∷ 83 ∷ bytes 2 (version_of rs)) (bytes 2 (length rs) ++ each record_of rs) (simp append_assoc) (simp length-bytes)

  marked : Marked (encode rs)
  unfolding encode header_of
  marked = (refl, refl, refl)

  pub headed-image : Headed (encode rs)
  unfolding headed numbers version_of
  headed-image =
      let a : 8 ≤ 8 + 16 * length rs = omega arith in
      let v = carried (length rs) few in
      rw (marked.0, marked.1, marked.2, version, blank, counted, length-encode rs, v.0, v.1) (sym (search guards depth 12))

  module _ (m : AllSized rs) where
    pub stations-image : stations (encode rs) ≡ rs
    unfolding stations encode
    stations-image =
        rw counted (build_cong (length rs) _ _ (λ j. rw zero-add) ∙ reads rs (header_of (version_of rs) (length rs)) 0 (length-header _ _) m)

    pub scanned-image : Good (top (version_of rs)) rs → scanned (encode rs) ≡ (Ok tt)
    unfolding scanned
    scanned-image g = rw (stations-image, version) (scan_all rs (top (version_of rs)) 0 0 (λ x m. (g.each x m).counts) g)

    pub repeated-image : NoPair twins rs → repeated (encode rs) ≡ (Ok tt)
    repeated-image c = (unrepeated (encode rs)).1 (rw stations-image c)

  -- the encoding of a valid list is accepted, and has its stations
  pub image-sound : Good (top (version_of rs)) rs → SmallIds rs → NoPair twins rs → (judged (encode rs) ≡ Ok (length rs)) × (stations (encode rs) ≡ rs)
  image-sound g h c =
      let m : AllSized rs = λ x o. fine_sized x (g.each x o) (h x o) in
      (all_passed (encode rs) headed-image (scanned-image m g) (repeated-image m c) ∙ ap Ok counted, stations-image m)
