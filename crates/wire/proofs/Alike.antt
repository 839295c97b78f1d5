-- What is read from bytes that begin alike. Assumes nothing.
use mathlib.Core.Path.{◌≡◌, refl}
use mathlib.Core.List.{List}
use Prim.Native.Nat.{ℕ, zero, suc, ◌+◌, ◌≤◌, ◌<◌}
use native.Mathlib.Omega.{arith}
use lib.ListN.{get_or}
use Rattle.wire.specs.Be.{be}

-- the first k bytes of two
pub record Alike (k : ℕ) (s t : List ℕ) : Type 0 where
  pub at : (j : ℕ) → j < k → get_or s j 0 ≡ get_or t j 0

pub be_alike : {k : ℕ} {s t : List ℕ} → Alike k s t → (w at : ℕ) → at + w ≤ k → be w s at ≡ be w t at
unfolding be
be_alike a zero at h = refl
be_alike a (suc w) at h = rw (be_alike a w at (omega arith), a.at (at + w) (omega arith))
