-- What holds of both cases of a test holds of what it gives. Assumes nothing.
use mathlib.Core.Path.{◌≡◌, refl}
use mathlib.Core.Bool.{Bool, true, false}
use Rattle.ground.specs.Guard.{given}

pub either : {A : Type 0} (P : A → Type 0) (b : Bool) (x y : A) → (b ≡ true → P x) → (b ≡ false → P y) → P (given b x y)
unfolding given
either P true x y h k = h refl
either P false x y h k = k refl
