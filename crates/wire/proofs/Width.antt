-- Numbers of k bytes: what holds at every width.
-- Assumes nothing.
use Rattle.std.specs.Prelude.{◌≢◌}
use mathlib.Core.Path.{◌≡◌, refl, ap, ◌∙◌}
use mathlib.Core.List.{List, [], ◌∷◌, ◌++◌, append_assoc}
use Prim.Native.Nat.{ℕ, zero, suc, ◌+◌, ◌*◌, ◌/◌, ◌%◌, ◌^◌, ◌≤◌, ◌<◌}
use native.Mathlib.Nat.{add-suc, add-zero, add_assoc, mul_assoc, mul_comm, pow-succ', div-lt_iff_lt-mul, pow-le-pow_right}
use native.Mathlib.Numerals.{add-one}
use native.Mathlib.Omega.{arith}
use lib.ListN.{length, get_or, take, drop, set, length-append, length-drop}
use lib.Seq.{sets, drop-cons, get_or_at, get_or-drop, take-suc, take-add, drop-drop, append_snoc, length-sets}
use Rattle.std.proofs.lemmas.List.{set_comm}
use Rattle.ground.proofs.Writes.{sets_append}
use Rattle.wire.specs.Be.{Bytes, be, bytes, put}

-- a number of j + k bytes is one of j bytes and then one of k
pub be-add : (j k : ℕ) (s : List ℕ) (at : ℕ) → be (j + k) s at ≡ be j s at * 256 ^ k + be k s (at + j)
unfolding be
be-add j zero s at = rw add-zero (omega arith)
be-add j (suc k) s at =
    rw (add-suc, pow-succ', ← mul_assoc, ← add_assoc) (omega (arith, be-add j k s at))

pub length-bytes : (k v : ℕ) → length (bytes k v) ≡ k
unfolding bytes
length-bytes zero v = refl
length-bytes (suc k) v = rw length-append (omega (arith, length-bytes k (v / 256)))

-- a byte stored behind others, before them
set_sets : (vs s : List ℕ) (at j b : ℕ) → at + length vs ≤ j → set (sets s at vs) j b ≡ sets (set s j b) at vs
set_sets [] s at j b h = refl
set_sets (a ∷ vs) s at j b h =
    let other : at ≢ j = λ e. absurd (omega arith) in
    set_sets vs (set s at a) (suc at) j b (omega arith) ∙ ap (λ (l : List ℕ). sets l (suc at) vs) (set_comm s at j a b other)

-- a number put from its last byte on
pub last_put : (k : ℕ) (s : List ℕ) (at v : ℕ) → put (k + 1) s at v ≡ put k (set s (at + k) (v % 256)) at (v / 256)
unfolding put bytes
last_put k s at v =
    let high : List ℕ = bytes k (v / 256) in
    rw (add-one, sets_append high (v % 256 ∷ []) s at, length-bytes k (v / 256)) (set_sets high s at (at + k) (v % 256) (omega (arith, length-bytes k (v / 256))))

pub put-none : (s : List ℕ) (at v : ℕ) → put 0 s at v ≡ s
unfolding put bytes
put-none s at v = refl

-- one byte more behind a number of at most three
pub one_more : (k x y : ℕ) → k < 4 → x < 256 ^ k → y < 256 → (x * 256 + y < 256 ^ (k + 1)) × (x * 256 + y < 2 ^ 32)
one_more k x y s h g =
    let next : x * 256 + y < 256 ^ (k + 1) = rw (add-one, pow-succ', mul_comm) (omega arith) in
    let most : 256 ^ (k + 1) ≤ 256 ^ 4 = pow-le-pow_right {n = 256} (omega arith) {i = k + 1} {j = 4} (omega arith) in
    (next, omega arith)

pub length-put : (k : ℕ) (s : List ℕ) (at v : ℕ) → length (put k s at v) ≡ length s
unfolding put
length-put k s at v = length-sets s at (bytes k v)

-- the bytes of a number, read back
pub be-bytes : (k v : ℕ) (p q : List ℕ) → v < 256 ^ k → be k (p ++ (bytes k v ++ q)) (length p) ≡ v
unfolding be bytes
be-bytes zero v p q h = omega (arith, h)
be-bytes (suc k) v p q h =
    let h' : v < 256 ^ k * 256 = rw (pow-succ', mul_comm) at h in
    let u : v / 256 < 256 ^ k = (div-lt_iff_lt-mul {k = 256} (omega arith)).1 h' in
    let head : List ℕ = p ++ bytes k (v / 256) in
    let long : length head ≡ length p + k = simp (length-append, length-bytes) in
    let high : be k (p ++ (bytes k (v / 256) ++ v % 256 ∷ q)) (length p) ≡ v / 256 = be-bytes k (v / 256) p (v % 256 ∷ q) u in
    let low : get_or (head ++ v % 256 ∷ q) (length p + k) 0 ≡ v % 256 = get_or_at head (v % 256) q 0 (length p + k) long in
    let low' : get_or (p ++ (bytes k (v / 256) ++ v % 256 ∷ q)) (length p + k) 0 ≡ v % 256 = rw append_assoc at low in
    rw append_snoc (omega (arith, high, low'))

-- a number that was read, as bytes again
pub bytes-be : (k : ℕ) (s : List ℕ) (at : ℕ) → Bytes s → at + k ≤ length s → bytes k (be k s at) ≡ take k (drop at s)
unfolding be bytes
bytes-be zero s at b h = refl
bytes-be (suc k) s at b h =
    let x = be k s at in
    let y = get_or s (at + k) 0 in
    let d : (x * 256 + y) / 256 ≡ x = omega (arith, b (at + k)) in
    let m : (x * 256 + y) % 256 ≡ y = omega (arith, b (at + k)) in
    let long : k < length (drop at s) = simp length-drop (omega (arith, h)) in
    rw (d, m, take-suc (drop at s) k 0 long, get_or-drop, bytes-be k s at b (omega (arith, h)))

pub be_lt : (k : ℕ) (s : List ℕ) (at : ℕ) → Bytes s → be k s at < 256 ^ k
unfolding be
be_lt zero s at b = omega arith
be_lt (suc k) s at b = rw (pow-succ', mul_comm) (omega (arith, be_lt k s at b, b (at + k)))

-- what stands from `at` on, cut after j elements
pub cut : (j k : ℕ) (s : List ℕ) (at : ℕ) → take (j + k) (drop at s) ≡ take j (drop at s) ++ take k (drop (at + j) s)
cut j k s at = rw (take-add, drop-drop)

pub one_at : (s : List ℕ) (at : ℕ) → at < length s → take 1 (drop at s) ≡ get_or s at 0 ∷ []
one_at s at h = rw (drop-cons s at 0 h)
