-- What a span holds, by the bits of the coordinates, over the 180th meridian too; and why nobody outside of a frame is short.
-- Assumes nothing.
use Rattle.std.proofs.Common.{◌≡◌, ℕ, zero, suc, ◌+◌, ◌-◌, ◌*◌, ◌%◌, ◌<◌, ◌≤◌, true, false, ◌⊎◌, ℤ, pos, negsuc, ◌-ℤ◌, nat_abs, sym, ap, ◌∙◌, inl, inr, ⊎_elim, true≢false, mod-lt, arith, lit<, lit≤, w32, of_z, ltb-false, ltb-true, le-ltb}
use native.Mathlib.Nat.{mod-add-mod}
use native.Mathlib.Decide.{dec_lt}
use Rattle.ground.proofs.Signed.{sub_size}
use Rattle.distance.specs.Distance.{lat_gap, lon_gap, Placed}
use Rattle.distance.specs.Meridian.{SmallerWay}
use Rattle.distance.proofs.Meridian.{smaller_way}
use Rattle.spacing.specs.Reaching.{Seconds, Surrounds}
use Rattle.spacing.specs.declared.Around.{Around}
use Rattle.spacing.specs.declared.Place.{Place}
use Rattle.framing.specs.Frames.{less, past, Centred, Holds, Encloses}
use Rattle.framing.specs.declared.Span.{Span}
use Rattle.framing.specs.declared.Frame.{Frame}

-- ---- bits

-- as a wrapping subtraction says it
pub less_by : (x n : ℕ) → n ≤ 4294967296 → (x + (4294967296 - n)) % 4294967296 ≡ less x n
unfolding less
less_by x n h = ap (λ (k : ℕ). k % 4294967296) (omega arith)

less_lt : (x n : ℕ) → less x n < 4294967296
unfolding less
less_lt x n = mod-lt (x + 4294967296 - n) (lit< tt)

less-back : (x n : ℕ) → x < 4294967296 → n ≤ 4294967296 → (less x n + n) % 4294967296 ≡ x
unfolding less
less-back x n h k = omega arith

-- numbers that wrap alike do so with c added
shift : (a b c : ℕ) → a % 4294967296 ≡ b % 4294967296 → (a + c) % 4294967296 ≡ (b + c) % 4294967296
shift a b c e = sym (mod-add-mod a 4294967296 c) ∙ ap (λ (n : ℕ). (n + c) % 4294967296) e ∙ mod-add-mod b 4294967296 c

-- seconds east of the western end of the longitudes
abbrev from_west : ℤ → ℕ
from_west (pos n) = 648000 + n
from_west (negsuc n) = 647999 - n

west_bits : (y : ℤ) → nat_abs y ≤ 648000 → of_z w32 y ≡ (from_west y + 4294319296) % 4294967296
west_bits (pos n) h = omega arith
west_bits (negsuc n) h = omega arith

west_gap : (z y : ℤ) → nat_abs z ≤ 648000 → nat_abs y ≤ 648000 → nat_abs (z -ℤ y) ≡ (from_west z - from_west y) + (from_west y - from_west z)
west_gap (pos a) (pos zero) h k = omega arith
west_gap (pos a) (pos (suc b)) h k = omega (arith, sub_size a (suc b))
west_gap (pos a) (negsuc b) h k = omega arith
west_gap (negsuc a) (pos zero) h k = omega (arith, sub_size 0 (suc a))
west_gap (negsuc a) (pos (suc b)) h k = omega arith
west_gap (negsuc a) (negsuc b) h k = omega (arith, sub_size (suc b) (suc a))

west_most : (y : ℤ) → nat_abs y ≤ 648000 → from_west y ≤ 1296000
west_most (pos n) h = omega arith
west_most (negsuc n) h = omega arith

-- ---- spans

-- bits that lie k below a place m, counted from the western end
record Below (m k low : ℕ) : Type 0 where
  bits : low < 4294967296
  rest : (low + k) % 4294967296 ≡ (m + 4294319296) % 4294967296

-- so do those a circle further on, a circle above m
turned : {m k low : ℕ} → Below m k low → Below (m + 1296000) k ((low + 1296000) % 4294967296)
turned {m} {k} {low} b = record { bits = mod-lt (low + 1296000) (lit< tt); rest = mod-add-mod (low + 1296000) 4294967296 k ∙ omega (arith, shift (low + k) (m + 4294319296) 1296000 b.rest) }

-- how far up from these bits a coordinate lies
module _ {m k low : ℕ} (b : Below m k low) (hm : m ≤ 2592000) (hk : k ≤ 324000) (y : ℤ) (hy : nat_abs y ≤ 648000) where
  rise : (less (of_z w32 y) low + m + 4294319296) % 4294967296 ≡ (from_west y + k + 4294319296) % 4294967296
  rise = joined (less (of_z w32 y) low) low k m (from_west y) b.rest (less-back (of_z w32 y) low (omega (arith, west_bits y hy)) (omega (arith, b.bits)) ∙ west_bits y hy)
    where
      joined : (r l k m e : ℕ) → (l + k) % 4294967296 ≡ (m + 4294319296) % 4294967296 → (r + l) % 4294967296 ≡ (e + 4294319296) % 4294967296 → (r + m + 4294319296) % 4294967296 ≡ (e + k + 4294319296) % 4294967296
      joined r l k m e f g =
          let one : r + m + 4294319296 ≡ m + 4294319296 + r = omega arith in
          let two : l + k + r ≡ r + l + k = omega arith in
          let three : e + 4294319296 + k ≡ e + k + 4294319296 = omega arith in
          rw (one, ← shift (l + k) (m + 4294319296) r f, two, shift (r + l) (e + 4294319296) k g, three)

  up : m ≤ from_west y + k → less (of_z w32 y) low ≡ from_west y + k - m
  up h = let e = west_most y hy in omega (arith, rise, less_lt (of_z w32 y) low)

  down : from_west y + k < m → less (of_z w32 y) low ≡ from_west y + k + 4294967296 - m
  down h = omega (arith, rise, less_lt (of_z w32 y) low)

-- a coordinate in a span from these bits that goes on over the end of the longitudes
over : {m k : ℕ} {v : Span} → Below m k v.low → v.size ≡ 2 * k + 4293671296 → m ≤ 2592000 → k ≤ 324000 → (y : ℤ) → nat_abs y ≤ 648000 → (m ≤ from_west y + k) ⊎ (from_west y + 1296000 ≤ m + k) → past v (of_z w32 y) ≡ false
unfolding past
over {m} {k} {v} b size hm hk y hy h = le-ltb v.size (less (of_z w32 y) v.low) (go (dec_lt (from_west y + k) m) h)
  where
    go : Dec (from_west y + k < m) → (m ≤ from_west y + k) ⊎ (from_west y + 1296000 ≤ m + k) → less (of_z w32 y) v.low ≤ v.size
    go (no n) o = omega (arith, size, west_most y hy, up b hm hk y hy (omega arith))
    go (yes l) (inl i) = absurd (omega arith)
    go (yes l) (inr i) = omega (arith, size, down b hm hk y hy l)

module _ {z : ℤ} (hz : nat_abs z ≤ 648000) {far : ℕ} (w : Seconds far) {s : Span} (c : Centred z far s) where
  below : Below (from_west z) (far - 1) s.low
  below = rw c.low (record { bits = less_lt (of_z w32 z) (far - 1); rest = less-back (of_z w32 z) (far - 1) (omega (arith, west_bits z hz)) (omega (arith, w.most)) ∙ west_bits z hz })

  middle : from_west z ≤ 1296000
  middle = west_most z hz

  within : from_west z ≤ 2592000
  within = omega (arith, middle)

  few : far - 1 ≤ 324000
  few = omega (arith, w.most)

  -- what is less than `far` from z lies in the span around it
  pub span_plain : Holds (lat_gap z) far s
  unfolding past
  span_plain = record { each = λ y hy g. le-ltb s.size (less (of_z w32 y) s.low) (go y hy g) }
    where
      go : (y : ℤ) → nat_abs y ≤ 648000 → lat_gap z y < far → less (of_z w32 y) s.low ≤ s.size
      go y hy g =
          let d = west_gap z y hz hy in
          omega (arith, d, c.size, up below within few y hy (omega (arith, d, g)))

  -- the bits of the eastern end of the longitudes, and of the western end: how far up in the span they lie
  east_end : less 648000 s.low ≡ 1296000 + (far - 1) - from_west z
  east_end = up below within few (pos 648000) (lit≤ tt) (omega (arith, middle))

  west_inside : past s 4294319296 ≡ false → from_west z < far
  unfolding past
  west_inside e = go (dec_lt (from_west z) far)
    where
      go : Dec (from_west z < far) → from_west z < far
      go (yes l) = l
      go (no n) = absurd (omega (arith, ltb-false s.size (less 4294319296 s.low) e, c.size, w.some, w.most, middle, down below within few (negsuc 647999) (lit≤ tt) (omega (arith, w.some))))

  west_past : past s 4294319296 ≡ true → far ≤ from_west z
  unfolding past
  west_past e = go (dec_lt (from_west z) far)
    where
      go : Dec (from_west z < far) → far ≤ from_west z
      go (no n) = omega arith
      go (yes l) = absurd (omega (arith, ltb-true s.size (less 4294319296 s.low) e, c.size, up below within few (negsuc 647999) (lit≤ tt) (omega arith)))

  -- where the short way to a longitude is less than `far`, so is the plain difference, or what it leaves of the circle
  ways : (y : ℤ) → nat_abs y ≤ 648000 → lon_gap z y < far → (nat_abs (z -ℤ y) < far) ⊎ (1296000 < nat_abs (z -ℤ y) + far)
  ways y hy g = go (smaller_way z y hz hy)
    where
      go : SmallerWay z y (lon_gap z y) → (nat_abs (z -ℤ y) < far) ⊎ (1296000 < nat_abs (z -ℤ y) + far)
      go v = ⊎_elim (λ e. inl (omega (arith, e, g))) (λ e. inr (omega (arith, e, g, v.circle))) v.plain

  -- a span that comes to neither end
  pub span_inside : past s 648000 ≡ true → past s 4294319296 ≡ true → Holds (lon_gap z) far s
  unfolding past
  span_inside e f = record { each = λ y hy g. span_plain.each y hy (⊎_elim (λ l. l) (λ l. absurd (none y hy l)) (ways y hy g)) }
    where
      none : (y : ℤ) → nat_abs y ≤ 648000 → 1296000 < nat_abs (z -ℤ y) + far → ⊥
      none y hy l = omega (arith, l, west_gap z y hz hy, west_most y hy, west_past f, ltb-true s.size (less 648000 s.low) e, east_end, c.size)

  module _ {v : Span} (size : v.size ≡ s.size + 4293671296) where
    -- one that comes to the eastern end, and goes on at the western
    pub span-east : past s 648000 ≡ false → v.low ≡ s.low → Holds (lon_gap z) far v
    unfolding past
    span-east e low = record { each = λ y hy g. over (rw low below) (omega (arith, size, c.size)) within few y hy (go y hy (ways y hy g)) }
      where
        go : (y : ℤ) → nat_abs y ≤ 648000 → (nat_abs (z -ℤ y) < far) ⊎ (1296000 < nat_abs (z -ℤ y) + far) → (from_west z ≤ from_west y + (far - 1)) ⊎ (from_west y + 1296000 ≤ from_west z + (far - 1))
        go y hy (inl l) = inl (omega (arith, west_gap z y hz hy))
        go y hy (inr l) = inr (omega (arith, west_gap z y hz hy, west_most y hy, w.most, ltb-false s.size (less 648000 s.low) e, east_end, c.size))

    -- one that comes to the western end, and begins at the eastern
    pub span_west : past s 4294319296 ≡ false → v.low ≡ (s.low + 1296000) % 4294967296 → Holds (lon_gap z) far v
    span_west e low = record { each = λ y hy g. over (rw low (turned below)) (omega (arith, size, c.size)) (omega (arith, middle)) few y hy (go y hy (ways y hy g)) }
      where
        go : (y : ℤ) → nat_abs y ≤ 648000 → (nat_abs (z -ℤ y) < far) ⊎ (1296000 < nat_abs (z -ℤ y) + far) → (from_west z + 1296000 ≤ from_west y + (far - 1)) ⊎ (from_west y + 1296000 ≤ from_west z + 1296000 + (far - 1))
        go y hy (inl l) = inr (omega (arith, west_gap z y hz hy))
        go y hy (inr l) = inl (omega (arith, west_gap z y hz hy, w.most, west_inside e))

-- ---- sites outside of a frame

-- what is not in a span is at least `far` away
far_off : {gap : ℤ → ℕ} {far : ℕ} {s : Span} → Holds gap far s → (y : ℤ) → nat_abs y ≤ 648000 → past s (of_z w32 y) ≡ true → far ≤ gap y
far_off {gap} {far} h y k e = go (dec_lt (gap y) far)
  where
    go : Dec (gap y < far) → far ≤ gap y
    go (yes l) = absurd (true≢false (sym e ∙ h.each y k l))
    go (no n) = omega arith

-- so what is outside of a frame of two such spans is outside of their box, and short to nobody
pub frame_encloses : {km : ℕ → ℕ → ℕ → ℕ} {p : Place} {a : Around} {f : Frame} → Surrounds km p a → Holds (lat_gap a.latitude) a.up f.latitudes → Holds (lon_gap a.longitude) a.across f.longitudes → Encloses km p f
frame_encloses {km} {p} {a} {f} b north east = record { clear = λ q there u. b.clear q there (record { either = go q there.placed u.either }) }
  where
    go : (q : Place) → Placed q.latitude q.longitude → (past f.latitudes (of_z w32 q.latitude) ≡ true) ⊎ (past f.longitudes (of_z w32 q.longitude) ≡ true) → (a.up ≤ lat_gap a.latitude q.latitude) ⊎ (a.across ≤ lon_gap a.longitude q.longitude)
    go q there (inl e) = inl (far_off north q.latitude (omega (arith, there.north)) e)
    go q there (inr e) = inr (far_off east q.longitude there.east e)
