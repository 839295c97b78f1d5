-- A list with some records of an accepted table replaced: its numbers, its image as it is written, and the answer. Assumes nothing.
use Rattle.std.specs.Prelude.{Ok, Err}
use mathlib.Core.Path.{◌≡◌, sym, ap, ap₂, ◌∙◌}
use mathlib.Core.List.{List, [], ◌++◌, append_assoc, append-nil}
use Prim.Native.Nat.{ℕ, ◌+◌, ◌-◌, ◌*◌, ◌≤◌, ◌<◌}
use native.Mathlib.Omega.{arith}
use lib.ListN.{length, take, drop, length-append, length-drop, drop_of_length-le}
use lib.Seq.{sets, sets-eq, drop-drop, take_all, length-take-le, length-sets}
use borrow.Rule.Slice.PartMut.{mid_of, put_mid, mid_len}
use borrow.Author.Tests.{ltb-true, ltb-false}
use Rattle.ground.specs.Lists.{each}
use Rattle.ground.proofs.Spans.{each_append}
use Rattle.ground.proofs.Writes.{sets_append}
use Rattle.ground.proofs.Guards.{past, taken}
use Rattle.wire.specs.Be.{Bytes}
use Rattle.refusals.specs.declared.Fault.{Fault}
use Rattle.refusals.specs.declared.Fault.TheVariants.{DoesNotFit}
use Rattle.versions.specs.Version.{version_for}
use Rattle.versions.proofs.Versions.{limit_small}
use Rattle.stations.specs.Image.{stations, count}
use Rattle.stations.specs.Encode.{record_of, header_of, version_of, encode}
use Rattle.stations.specs.declared.Station.{Station}
use Rattle.stations.proofs.Back.{length-encode, length-header, length_body}
use Rattle.stations.proofs.Whole.{Whole, whole, length-stations}
use Rattle.stations.proofs.Cuts.{take-image, drop-image}
use Rattle.desk.specs.Answers.{grant, Answered, room_fault}
use Rattle.desk.proofs.Answers.{does_not_fit, written}
use Rattle.granting.specs.Written.{Splices, spliced}

-- one run of writes right after another
pub sets_both : (u v l : List ℕ) (i k : ℕ) → i + length u ≡ k → sets (sets l i u) k v ≡ sets l i (u ++ v)
sets_both u v l i k e = sym (sets_append u v l i ∙ ap (λ (j : ℕ). sets (sets l i u) j v) e)

-- three of them
runs : (l a b d : List ℕ) (i j : ℕ) → 0 + length a ≡ i → i + length b ≡ j → sets (sets (sets l 0 a) i b) j d ≡ sets l 0 (a ++ (b ++ d))
runs l a b d i j x y = sets_both b d (sets l 0 a) i j y ∙ sets_both a (b ++ d) l 0 i x

-- a part that is copied over
pub put_run : (a k : ℕ) (xs vs : List ℕ) → length vs ≡ k → a + k ≤ length xs → put_mid a k xs vs ≡ sets xs a vs
put_run a k xs vs e h =
    ap (λ (l : List ℕ). take a xs ++ (vs ++ l)) (drop-drop k a xs ∙ ap (λ (n : ℕ). drop (a + n) xs) (sym e))
    ∙ sym (append_assoc (take a xs) vs (drop (a + length vs) xs))
    ∙ sym (sets-eq vs xs a (omega arith))

-- a run of writes into the part from a on is one into the whole
pub part_sets : (xs vs : List ℕ) (a : ℕ) → a + length vs ≤ length xs → put_mid a (length xs - a) xs (sets (mid_of a (length xs - a) xs) 0 vs) ≡ sets xs a vs
part_sets xs vs a h =
    let long : length (drop a xs) ≡ length xs - a = length-drop a xs in
    let mid : mid_of a (length xs - a) xs ≡ drop a xs = take_all (length xs - a) (drop a xs) (omega arith) in
    let post : drop (length xs - a) (drop a xs) ≡ [] = drop_of_length-le (drop a xs) {i = length xs - a} (omega arith) in
    let room : 0 + length vs ≤ length (drop a xs) = omega arith in
    let z : 0 + length vs ≡ length vs = omega arith in
    rw (mid, post, append-nil, sets-eq vs (drop a xs) 0 room, z, drop-drop, sets-eq vs xs a h) (sym (append_assoc (take a xs) vs (drop (a + length vs) xs)))

-- how long the part from a on is
pub tail_long : (a : ℕ) (xs : List ℕ) → length (mid_of a (length xs - a) xs) ≡ length xs - a
tail_long a xs = mid_len a (length xs) xs (omega arith)

-- where there is room
pub enough : (room need : ℕ) → room_fault room need ≡ Ok tt → need ≤ room
unfolding room_fault
enough room need e = ltb-false room need (past _ _ _ _ e (λ z. cc)).0

-- how long the table is, and that the bytes of what is left are counted in 16 bits
pub sizes : {s : List ℕ} {p q k : ℕ} → Splices s p q k → (length s ≡ 8 + 16 * count s) × (8 + 16 * (p + k + (count s - q)) < 65536)
sizes {s} k = ((whole s (count s) k.accepted).long, omega (arith, k.few, limit_small))

module _ {s : List ℕ} {p q : ℕ} (rs : List Station) (k : Splices s p q (length rs)) where
  table : Whole s (count s)
  table = whole s (count s) k.accepted

  -- how many records are left
  abbrev many : ℕ
  many = p + length rs + (count s - q)

  -- and which
  abbrev left : List Station
  left = spliced p q rs (stations s)

  front_long : length (take p (stations s)) ≡ p
  front_long = length-take-le p (stations s) (omega (arith, k.front, length-stations table))

  listed : length left ≡ many
  listed =
      let ss = stations s in
      rw (length-append (take p ss) (rs ++ drop q ss), length-append rs (drop q ss), front_long, length-drop q ss, length-stations table) (omega arith)

  need_is : 8 + 16 * many ≡ length (encode left)
  need_is = omega (arith, listed, length-encode left)

  image : {v : ℕ} → v ≡ version_for many
      → encode left ≡ header_of v many ++ (each record_of (take p (stations s)) ++ (each record_of rs ++ each record_of (drop q (stations s))))
  unfolding encode version_of
  image {v} call =
      let ss = stations s in
      let head : header_of (version_of left) (length left) ≡ header_of v many = ap₂ header_of (ap version_for listed ∙ sym call) listed in
      let body : each record_of left ≡ each record_of (take p ss) ++ (each record_of rs ++ each record_of (drop q ss)) =
      each_append record_of (take p ss) (rs ++ drop q ss)
      ∙ ap (λ (l : List ℕ). each record_of (take p ss) ++ l) (each_append record_of rs (drop q ss)) in
      ap₂ (λ (x y : List ℕ). x ++ y) head body

  -- 22
  pub no_room : {entry : List ℕ} {f : Fault} → room_fault (length entry) (8 + 16 * many) ≡ Err f → Answered (grant (encode left)) entry entry (Err f)
  unfolding room_fault
  no_room {entry} {f} e =
      let t = taken _ _ _ _ e (λ z. cc) in
      let same : DoesNotFit (8 + 16 * many) ≡ f = cc in
      rw (← same) (does_not_fit (encode left) entry (8 + 16 * many) need_is (ltb-true _ _ t.0))

  -- the header, the records before the place, and from the place on those that are set in and the later ones
  pub granted : Bytes s → {entry headed fronted rest : List ℕ} {v : ℕ} → 8 + 16 * many ≤ length entry
      → v ≡ version_for many
      → headed ≡ sets entry 0 (header_of v many)
      → fronted ≡ sets headed 8 (take (8 + 16 * p - 8) (drop 8 s))
      → let room = length fronted - (8 + 16 * p) in
      rest ≡ sets (mid_of (8 + 16 * p) room fronted) 0 (each record_of rs ++ take (length s - (8 + 16 * q)) (drop (8 + 16 * q) s))
      → Answered (grant (encode left)) entry (put_mid (8 + 16 * p) room fronted rest) (Ok (8 + 16 * many))
  granted b {entry} {headed} {fronted} {rest} {v} fit call h f x =
      let ss = stations s in
      let at = 8 + 16 * p in
      let a = header_of v many in
      let t = each record_of (take p ss) in
      let d = each record_of rs ++ each record_of (drop q ss) in
      let long : length s ≡ 8 + 16 * count s = table.long in
      let n : length t ≡ 16 * p = omega (arith, length_body (take p ss), front_long) in
      let m : length d ≡ 16 * (length rs + (count s - q)) =
      length-append (each record_of rs) (each record_of (drop q ss)) ∙ omega (arith, length_body rs, length_body (drop q ss), length-drop q ss, length-stations table) in
      let w : at - 8 ≡ 16 * p = omega arith in
      let head : length headed ≡ length entry = ap length h ∙ simp length-sets in
      let front : take (at - 8) (drop 8 s) ≡ t = ap (λ (k : ℕ). take k (drop 8 s)) w ∙ take-image s b (count s) k.accepted p k.front in
      let copied : fronted ≡ sets headed 8 t = f ∙ ap (sets headed 8) front in
      let same : length fronted ≡ length entry = ap length copied ∙ simp length-sets head in
      let back : take (length s - (8 + 16 * q)) (drop (8 + 16 * q) s) ≡ each record_of (drop q ss) =
      take_all (length s - (8 + 16 * q)) (drop (8 + 16 * q) s) (omega (arith, length-drop (8 + 16 * q) s)) ∙ drop-image s b (count s) k.accepted q k.back in
      let stored : put_mid at (length fronted - at) fronted rest ≡ sets entry 0 (encode left) =
      ap (put_mid at (length fronted - at) fronted) (x ∙ ap (λ (l : List ℕ). sets (mid_of at (length fronted - at) fronted) 0 (each record_of rs ++ l)) back)
      ∙ part_sets fronted d at (omega arith)
      ∙ ap (λ (l : List ℕ). sets l at d) (copied ∙ ap (λ (l : List ℕ). sets l 8 t) h)
      ∙ runs entry a t d 8 at (omega (arith, length-header v many)) (omega arith)
      ∙ ap (sets entry 0) (sym (image call)) in
      written (encode left) entry _ (8 + 16 * many) (record { next = omega (arith, need_is); stored = stored }) (omega (arith, need_is))
