-- A site in range fits 32 bits, so what is read of two such sites is theirs. Assumes nothing.
use mathlib.Core.Path.{◌≡◌, ap, ◌∙◌}
use Prim.Native.Nat.{ℕ}
use native.Mathlib.Omega.{arith}
use lib.IntN.{ℤ, pos}
use mir.Facts.{to_z-of_z}
use mir.Syntax.{w32}
use mir.Val.{SFits, to_z, of_z}
use Rattle.ground.proofs.Signed.{fit32}
use Rattle.distance.specs.Distance.{h_of, Placed}

pub north_fits : {lat lon : ℤ} → Placed lat lon → SFits w32 lat
north_fits {lat} p = fit32 lat (omega (arith, p.north))

pub east_fits : {lat lon : ℤ} → Placed lat lon → SFits w32 lon
east_fits {lat} {lon} p = fit32 lon (omega (arith, p.east))

abbrev read : ℤ → ℤ
read z = to_z w32 (of_z w32 z)

module _ {lat1 lon1 lat2 lon2 : ℤ} (a : Placed lat1 lon1) (b : Placed lat2 lon2) where
  pub norths : {n : ℕ} (f : ℤ → ℤ → ℕ) → n ≡ f (read lat1) (read lat2) → n ≡ f lat1 lat2
  norths f e = simp (to_z-of_z (north_fits a), to_z-of_z (north_fits b)) at e

  pub easts : {n : ℕ} (f : ℤ → ℤ → ℕ) → n ≡ f (read lon1) (read lon2) → n ≡ f lon1 lon2
  easts f e = simp (to_z-of_z (east_fits a), to_z-of_z (east_fits b)) at e

  -- the length of a degree at the mean latitude
  pub degree : {n h : ℕ} (f : ℕ → ℤ) → pos n ≡ f h → h ≡ h_of (read lat1) (read lat2) → pos n ≡ f (h_of lat1 lat2)
  degree f e g = e ∙ ap f (norths h_of g)
