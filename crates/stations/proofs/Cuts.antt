-- An image, cut at its records. Assumes nothing.
use Rattle.std.specs.Prelude.{Ok}
use mathlib.Core.Path.{◌≡◌, sym, ◌∙◌, ap}
use mathlib.Core.List.{List, ◌∷◌, ◌++◌}
use Prim.Native.Nat.{ℕ, ◌+◌, ◌*◌, ◌≤◌}
use native.Mathlib.Omega.{arith}
use lib.ListN.{length, take, drop, take-append-drop, length-drop}
use lib.Seq.{take_at, drop_at, drop-drop, length-take-le}
use Rattle.ground.specs.Lists.{each}
use Rattle.ground.proofs.Spans.{each_append}
use Rattle.wire.specs.Be.{Bytes}
use Rattle.stations.specs.Image.{bytes_at, stations, judged}
use Rattle.stations.specs.Encode.{record_of, header_of, version_of, encode}
use Rattle.stations.specs.declared.Station.{Station}
use Rattle.stations.proofs.Whole.{whole, length-stations}
use Rattle.stations.proofs.Image.{body_bytes}
use Rattle.stations.proofs.Back.{length_record, length_body, length-header}

-- ---- the image of a list

module _ (rs : List Station) (m : ℕ) (h : m ≤ length rs) where
  body_cut : each record_of rs ≡ each record_of (take m rs) ++ each record_of (drop m rs)
  body_cut = ap (each record_of) (sym (take-append-drop m rs)) ∙ each_append record_of (take m rs) (drop m rs)

  front_long : length (each record_of (take m rs)) ≡ 16 * m
  front_long = length_body (take m rs) ∙ ap (λ (k : ℕ). 16 * k) (length-take-le m rs h)

  -- the bytes of the first m records
  take_body : take (16 * m) (each record_of rs) ≡ each record_of (take m rs)
  take_body = rw body_cut (take_at (each record_of (take m rs)) (each record_of (drop m rs)) (16 * m) front_long)

  -- and of those from m on
  drop_body : drop (16 * m) (each record_of rs) ≡ each record_of (drop m rs)
  drop_body = rw body_cut (drop_at (each record_of (take m rs)) (each record_of (drop m rs)) (16 * m) front_long)

-- the sixteen bytes of the record at i
pub bytes_at_lem : (rs : List Station) (i : ℕ) (x : Station) (rest : List Station) → drop i rs ≡ x ∷ rest → bytes_at (encode rs) i ≡ record_of x
unfolding encode each
bytes_at_lem rs i x rest e =
    let head = header_of (version_of rs) (length rs) in
    let h : i ≤ length rs = omega (arith, length-drop i rs, ap length e) in
    rw (← drop-drop (16 * i) 8 (head ++ each record_of rs), drop_at head (each record_of rs) 8 (length-header (version_of rs) (length rs)), drop_body rs i h, e) (take_at (record_of x) (each record_of rest) 16 (length_record x))

-- ---- an accepted image

module _ (s : List ℕ) (b : Bytes s) (n : ℕ) (e : judged s ≡ Ok n) where
  -- from the record at i on
  pub drop-image : (i : ℕ) → i ≤ n → drop (8 + 16 * i) s ≡ each record_of (drop i (stations s))
  drop-image i h = sym (body_bytes s b (whole s n e) i h)

  -- m records from the one at i on
  pub cut_image : (i m : ℕ) → i + m ≤ n → take (16 * m) (drop (8 + 16 * i) s) ≡ each record_of (take m (drop i (stations s)))
  cut_image i m h =
      let l : m ≤ length (drop i (stations s)) = simp length-drop (omega (arith, length-stations (whole s n e))) in
      ap (take (16 * m)) (drop-image i (omega arith)) ∙ take_body (drop i (stations s)) m l

  -- the records before the one at i
  pub take-image : (i : ℕ) → i ≤ n → take (16 * i) (drop 8 s) ≡ each record_of (take i (stations s))
  take-image i h = cut_image 0 i (omega arith)
