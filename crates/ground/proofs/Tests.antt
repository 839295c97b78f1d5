-- A test that passes exactly where something holds, and two tests that are one. Assumes nothing.
use mathlib.Core.Path.{◌≡◌, refl, sym, ◌∙◌}
use mathlib.Core.Bool.{Bool, true, false, true≢false}
use mathlib.Core.Logic.{◌↔◌}

module _ {P : Type 0} {b : Bool} (is : (b ≡ true) ↔ P) where
  -- where it fails, that does not hold
  pub fails : b ≡ false → P → ⊥
  fails e p = true≢false (sym (is.1 p) ∙ e)

  -- where that does not hold, it fails
  pub fails_where : (P → ⊥) → b ≡ false
  fails_where f = go b refl
    where
      go : (t : Bool) → b ≡ t → b ≡ false
      go true e = absurd (f (is.0 e))
      go false e = e

-- two tests are one where each gives the other
pub iff : (a b : Bool) → (a ≡ true → b ≡ true) → (b ≡ true → a ≡ true) → a ≡ b
iff true b f g = sym (f refl)
iff false true f g = g refl
iff false false f g = refl
