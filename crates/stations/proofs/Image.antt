-- A judged table is the image of its stations: one list has one image. Assumes nothing.
use Rattle.std.specs.Prelude.{Ok}
use mathlib.Core.Path.{◌≡◌, refl, sym, ◌∙◌, ap}
use mathlib.Core.List.{List}
use Prim.Native.Nat.{ℕ, zero, suc, ◌+◌, ◌-◌, ◌*◌, ◌≤◌}
use native.Mathlib.Nat.{add_assoc}
use native.Mathlib.Omega.{arith}
use lib.ListN.{length, take, drop, take-append-drop, drop_of_length-le}
use lib.Seq.{drop-drop}
use Rattle.ground.specs.Lists.{each}
use Rattle.wire.specs.Be.{Bytes, bytes}
use Rattle.wire.proofs.Width.{bytes-be, cut, one_at}
use Rattle.wire.proofs.Sign.{bytes_signed}
use Rattle.stations.specs.Image.{station_at, bytes_at, stations, version, judged}
use Rattle.stations.specs.Encode.{record_of, header_of, encode}
use Rattle.stations.proofs.Whole.{Whole, whole, next, done, length-stations, version_called}

module _ (s : List ℕ) (b : Bytes s) where
  -- a record that was read, as bytes again
  pub record_bytes : (i : ℕ) → 8 + 16 * i + 16 ≤ length s → record_of (station_at s i) ≡ bytes_at s i
  unfolding record_of station_at
  record_bytes i h =
      let at = 8 + 16 * i in
      rw (bytes-be 4 s at b (omega arith), bytes-be 2 s (at + 4) b (omega arith), bytes_signed s (at + 8) b (omega arith), bytes_signed s (at + 12) b (omega arith))
      (rw (
        cut 4 12 s at,
        cut 2 10 s (at + 4),
        add_assoc at 4 2,
        cut 1 9 s (at + 6),
        one_at s (at + 6) (omega arith),
        add_assoc at 6 1,
        cut 1 8 s (at + 7),
        one_at s (at + 7) (omega arith),
        add_assoc at 7 1,
        cut 4 4 s (at + 8),
        add_assoc at 8 4,
      ) refl)

  body_left : {n : ℕ} → Whole s n → (m i : ℕ) → i + m ≡ n → each record_of (drop i (stations s)) ≡ drop (8 + 16 * i) s
  unfolding each
  body_left {n} w zero i e =
      rw (done w i (omega arith), drop_of_length-le s {i = 8 + 16 * i} (omega (arith, w.long)))
  body_left {n} w (suc m) i e =
      let at = 8 + 16 * i in
      let room : at + 16 ≤ length s = omega (arith, w.long) in
      let on : 8 + 16 * (i + 1) ≡ at + 16 = omega arith in
      rw (next w i (omega arith), body_left w m (i + 1) (omega arith), record_bytes i room, on, ← drop-drop 16 at s, take-append-drop)

  -- what stands from the record at i on is the records from i on
  pub body_bytes : {n : ℕ} → Whole s n → (i : ℕ) → i ≤ n → each record_of (drop i (stations s)) ≡ drop (8 + 16 * i) s
  body_bytes {n} w i h = body_left w (n - i) i (omega arith)

  header-bytes : {n : ℕ} → Whole s n → header_of (version s) n ≡ take 8 s
  unfolding header_of
  header-bytes {n} w =
      let h : 8 ≤ length s = omega (arith, w.long) in
      let v : bytes 2 (version s) ≡ take 2 (drop 3 s) = bytes-be 2 s 3 b (omega arith) in
      let k : bytes 2 n ≡ take 2 (drop 6 s) = ap (bytes 2) (sym w.counted) ∙ bytes-be 2 s 6 b (omega arith) in
      rw (
        cut 1 7 s 0,
        one_at s 0 (omega arith),
        cut 1 6 s 1,
        one_at s 1 (omega arith),
        cut 1 5 s 2,
        one_at s 2 (omega arith),
        cut 2 3 s 3,
        cut 1 2 s 5,
        one_at s 5 (omega arith),
        w.mark.0,
        w.mark.1,
        w.mark.2,
        w.blank,
        v,
        k,
      )

  -- an accepted image is the encoding of its stations
  pub image_of : (n : ℕ) → judged s ≡ Ok n → encode (stations s) ≡ s
  unfolding encode
  image_of n e =
      let w = whole s n e in
      rw (← version_called w, length-stations w, header-bytes w, body_bytes w 0 (omega arith), take-append-drop)

-- one list of stations has one accepted image
pub one_image : (s u : List ℕ) → Bytes s → Bytes u → (m n : ℕ) → judged s ≡ Ok m → judged u ≡ Ok n → stations s ≡ stations u → s ≡ u
one_image s u b c m n e f h = sym (image_of s b m e) ∙ ap encode h ∙ image_of u c n f
