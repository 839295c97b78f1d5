-- What the image's laws need of the versions: all that is proved anew for a further version. Assumes nothing.
use mathlib.Core.Path.{◌≡◌, refl, sym, ◌∙◌}
use mathlib.Core.Logic.{◌⊎◌, inl, inr, ⊎_elim}
use mathlib.Core.Bool.{Bool, true, false, ◌&&◌, ◌||◌}
use Prim.Native.Nat.{ℕ, ◌≤◌, ◌<◌}
use native.Mathlib.Omega.{arith}
use native.Mathlib.Decide.{dec_lt}
use lib.Dec.{ltb, leb, eqb}
use borrow.Author.Tests.{leb-true, ltb-true, eqb-true, le-leb, lt-leb, lt-ltb}
use Rattle.ground.specs.Guard.{given}
use Rattle.ground.proofs.Guards.{and_was}
use Rattle.versions.specs.Version.{known, line, limit, carries, top, version_for}

-- ---- which version so many records call for

pub calls_one : (n : ℕ) → n ≤ line → version_for n ≡ 1
unfolding version_for given
calls_one n h = rw (le-leb n line h)

pub calls_two : (n : ℕ) → line < n → version_for n ≡ 2
unfolding version_for given
calls_two n h = rw (lt-leb n line h)

-- ---- what a version carries

abbrev First : ℕ → ℕ → Type 0
First v n = (v ≡ 1) × (n ≤ line)

abbrev Second : ℕ → ℕ → Type 0
Second v n = (v ≡ 2) × (line < n) × (n ≤ limit)

either_one : (v n : ℕ) → carries v n ≡ true → First v n ⊎ Second v n
unfolding carries
either_one v n c = go (eqb v 1 && leb n line) refl c
  where
    go : (b : Bool) → (eqb v 1 && leb n line) ≡ b → (b || eqb v 2 && (ltb line n && leb n limit)) ≡ true → First v n ⊎ Second v n
    go true e c = let w = and_was (eqb v 1) (leb n line) e in inl (eqb-true v 1 w.0, leb-true n line w.1)
    go false e c =
        let w = and_was (eqb v 2) (ltb line n && leb n limit) c in
        let r = and_was (ltb line n) (leb n limit) w.1 in
        inr (eqb-true v 2 w.0, ltb-true line n r.0, leb-true n limit r.1)

below : line ≤ limit
unfolding line limit
below = omega arith

module _ (v n : ℕ) (c : carries v n ≡ true) where
  -- no version carries more than the limit
  pub few : n ≤ limit
  few = ⊎_elim (λ (a : First v n). omega (arith, below)) (λ (a : Second v n). a.2) (either_one v n c)

  -- a version carries so many records only if they call for it
  pub called : v ≡ version_for n
  called = ⊎_elim (λ (a : First v n). a.0 ∙ sym (calls_one n a.1)) (λ (a : Second v n). a.0 ∙ sym (calls_two n a.1)) (either_one v n c)

-- the version that so many records call for is known, and carries them
pub carried : (n : ℕ) → n ≤ limit → (known (version_for n) ≡ true) × (carries (version_for n) n ≡ true)
unfolding known carries
carried n h = elim (dec_lt line n) [ yes a ↦ rw (calls_two n a, lt-ltb line n a, le-leb n limit h) (refl, refl) | no a ↦ rw (calls_one n (omega arith), le-leb n line (omega arith)) (refl, refl) ]

-- all versions carry the same flags
pub one_top : (v w : ℕ) → top v ≡ top w
unfolding top
one_top v w = refl

-- an image of so many records, and a version, fit 16 bits
pub limit_small : limit ≤ 4000
unfolding limit
limit_small = omega arith

pub version_small : (n : ℕ) → version_for n < 65536
version_small n = elim (dec_lt line n) [ yes a ↦ omega (arith, calls_two n a) | no a ↦ omega (arith, calls_one n (omega arith)) ]
