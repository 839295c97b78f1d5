-- A definition that goes by one test after the other: where the tests have led.
-- Assumes nothing.
use mathlib.Core.Path.{◌≡◌, refl, sym}
use mathlib.Core.Bool.{Bool, true, false, not, ◌&&◌, ◌||◌, true≢false, false≢true}
use Rattle.ground.specs.Guard.{given}
use borrow.Author.Tests.{lt-ltb, le-ltb, le-leb, lt-leb, eq-eqb, ne_eqb}

pub here : {A : Type 0} (b : Bool) {x : A} (y z : A) → b ≡ true → x ≡ y → x ≡ given b y z
unfolding given
here b y z e p = rw e p

pub on : {A : Type 0} (b : Bool) {x : A} (y z : A) → b ≡ false → x ≡ z → x ≡ given b y z
unfolding given
on b y z e p = rw e p

-- a test that failed, since what stands there is not what came out
pub past : {A : Type 0} (b : Bool) (x y z : A) → given b x y ≡ z → (x ≡ z → ⊥) → (b ≡ false) × (y ≡ z)
unfolding given
past true x y z e h = absurd (h e)
past false x y z e h = (refl, e)

-- a test that passed
pub taken : {A : Type 0} (b : Bool) (x y z : A) → given b x y ≡ z → (y ≡ z → ⊥) → (b ≡ true) × (x ≡ z)
unfolding given
taken true x y z e h = (refl, e)
taken false x y z e h = absurd (h e)

pub not_was : (b : Bool) → not b ≡ false → b ≡ true
not_was true e = refl
not_was false e = sym e

pub and_was : (a b : Bool) → (a && b) ≡ true → (a ≡ true) × (b ≡ true)
and_was true b e = (refl, e)
and_was false b e = absurd (false≢true e)

pub or_was : (a b : Bool) → (a || b) ≡ false → (a ≡ false) × (b ≡ false)
or_was true b e = absurd (true≢false e)
or_was false b e = (refl, e)

pub or_alone : (a : Bool) → (a || false) ≡ a
or_alone true = refl
or_alone false = refl

pub or_first : (a b : Bool) → a ≡ true → (a || b) ≡ true
or_first a b e = rw e

pub or_second : (a b : Bool) → a ≡ false → b ≡ true → (a || b) ≡ true
or_second a b e f = rw (e, f)

pub or_none : (a b : Bool) → a ≡ false → b ≡ false → (a || b) ≡ false
or_none a b e f = rw (e, f)

pub and_first : (a b : Bool) → a ≡ false → (a && b) ≡ false
and_first a b e = rw e

pub and_second : (a b : Bool) → a ≡ true → b ≡ false → (a && b) ≡ false
and_second a b e f = rw (e, f)

pub and_both : (a b : Bool) → a ≡ true → b ≡ true → (a && b) ≡ true
and_both a b e f = rw (e, f)

pub not-true : (a : Bool) → a ≡ true → not a ≡ false
not-true a e = rw e

pub not-false : (a : Bool) → a ≡ false → not a ≡ true
not-false a e = rw e

pub ruleset guards = (refl, here, on, or_first, or_second, or_none, and_first, and_second, and_both, not-true, not-false, lt-ltb, le-ltb, le-leb, lt-leb, eq-eqb, ne_eqb)
