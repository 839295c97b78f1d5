-- A walk that passes numbers over goes on. Assumes nothing.
use mathlib.Core.Path.{◌≡◌, subst}
use Prim.Native.Nat.{ℕ, ◌+◌, ◌≤◌, ◌<◌}
use native.Mathlib.Omega.{arith}
use native.Mathlib.Decide.{ℕ_discrete, dec_lt}
use Rattle.ground.specs.Passing.{Passing}

module _ {such : ℕ → Type 0} {n from : ℕ} where
  pub pass_start : from ≤ n → Passing such n from from
  pass_start h = record { on = omega arith; upto = h; each_one = λ j l u. absurd (omega arith) }

  -- over one more
  pub pass_one : {i : ℕ} → Passing such n from i → (to : ℕ) → to ≡ i + 1 → to ≤ n → such i → Passing such n from to
  pass_one {i} w to e h q = record { on = omega (arith, w.on); upto = h; each_one = λ j l u. go j l u (ℕ_discrete i j) }
    where
      go : (j : ℕ) → from ≤ j → j < to → Dec (i ≡ j) → such j
      go j l u (yes r) = subst such r q
      go j l u (no ne) = w.each_one j l (omega arith)

  -- over some more
  pub pass_on : {i to : ℕ} → Passing such n from i → Passing such n i to → Passing such n from to
  pass_on {i} {to} w v = record { on = omega (arith, w.on, v.on); upto = v.upto; each_one = λ j l u. go j l u (dec_lt j i) }
    where
      go : (j : ℕ) → from ≤ j → j < to → Dec (j < i) → such j
      go j l u (yes d) = w.each_one j l d
      go j l u (no m) = v.each_one j (omega arith) u

-- what is said of them may be weakened
pub pass_as : {such so : ℕ → Type 0} {n from to : ℕ} → ((j : ℕ) → j < n → such j → so j) → Passing such n from to → Passing so n from to
pass_as f w = record { on = w.on; upto = w.upto; each_one = λ j l u. f j (omega (arith, w.upto)) (w.each_one j l u) }
