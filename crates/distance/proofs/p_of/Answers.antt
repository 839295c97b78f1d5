use mathlib.Core.Path.{◌≡◌, sym, ap₂, subst}
use Prim.Native.Nat.{◌≤◌}
use native.Mathlib.Omega.{arith}
use lib.IntN.{ℤ, pos, nat_abs, ◌+ℤ◌, ◌-ℤ◌, ◌*ℤ◌}
use mir.Syntax.{w64}
use mir.Val.{SFits}
use mir.Facts.{to_z-of_z}
use Rattle.distance.specs.Distance.{◌÷◌, E}
use Rattle.ground.proofs.Signed.{fit64, abs_add, abs_sub}
use Rattle.distance.proofs.Cosines.{scaled-size}
use Rattle.distance.proofs.p_of.Goals as goal
use Rattle.distance.proofs.p_of.Goals.{After-scaled-2}

module _ (c : After-scaled-2) where
  given : c.scaled.result ≡ pos 5660500 *ℤ c.args.c2 ÷ E
  given = simp (to_z-of_z c.ranges.c2) at c.scaled.ensures

  given2 : c.scaled-2.result ≡ pos 12000 *ℤ c.args.c4 ÷ E
  given2 = simp (to_z-of_z c.ranges.c4) at c.scaled-2.ensures

  small : nat_abs c.scaled.result ≤ 5660500
  small = subst (λ (z : ℤ). nat_abs z ≤ 5660500) (sym given) (scaled-size (pos 5660500) c.args.c2 5660500 E (omega arith) c.requires.0)

  small2 : nat_abs c.scaled-2.result ≤ 12000
  small2 = subst (λ (z : ℤ). nat_abs z ≤ 12000) (sym given2) (scaled-size (pos 12000) c.args.c4 12000 E (omega arith) c.requires.1)

  fits1 : SFits w64 c.scaled.result
  fits1 = record { sfits = c.scaled.type_inv }

  fits2 : SFits w64 c.scaled-2.result
  fits2 = record { sfits = c.scaled-2.type_inv }

  part : SFits w64 (pos 1111320900 -ℤ c.scaled.result)
  part = fit64 _ (omega (arith, small, abs_sub (pos 1111320900) c.scaled.result))

  whole : SFits w64 (pos 1111320900 -ℤ c.scaled.result +ℤ c.scaled-2.result)
  whole = fit64 _ (omega (arith, small, small2, abs_sub (pos 1111320900) c.scaled.result, abs_add (pos 1111320900 -ℤ c.scaled.result) c.scaled-2.result))

pub returns : goal.returns
returns c =
    simp (to_z-of_z (fits1 c), to_z-of_z (fits2 c), to_z-of_z (part c), to_z-of_z (whole c))
    (ap₂ (λ (u v : ℤ). pos 1111320900 -ℤ u +ℤ v) (given c) (given2 c))
