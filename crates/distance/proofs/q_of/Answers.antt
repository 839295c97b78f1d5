use mathlib.Core.Path.{◌≡◌, sym, subst}
use Prim.Native.Nat.{◌≤◌, ◌*◌}
use native.Mathlib.Omega.{arith}
use lib.IntN.{ℤ, pos, nat_abs, ◌+ℤ◌, ◌-ℤ◌, ◌*ℤ◌}
use mir.Syntax.{w64}
use mir.Val.{SFits}
use mir.Facts.{to_z-of_z}
use Rattle.distance.specs.Distance.{◌÷◌, E}
use Rattle.ground.proofs.Signed.{fit64, abs_add, abs_sub}
use Rattle.distance.proofs.Cosines.{scaled-size}
use Rattle.distance.proofs.q_of.Goals as goal
use Rattle.distance.proofs.q_of.Goals.{After-scaled-3}

module _ (c : After-scaled-3) where
  given : c.scaled.result ≡ pos 1114151300 *ℤ c.args.c1 ÷ E
  given = simp (to_z-of_z c.ranges.c1) at c.scaled.ensures

  given2 : c.scaled-2.result ≡ pos 945500 *ℤ c.args.c3 ÷ E
  given2 = simp (to_z-of_z c.ranges.c3) at c.scaled-2.ensures

  given3 : c.scaled-3.result ≡ pos 1200 *ℤ c.args.c5 ÷ E
  given3 = simp (to_z-of_z c.ranges.c5) at c.scaled-3.ensures

  small : nat_abs c.scaled.result ≤ 1114151300
  small = subst (λ (z : ℤ). nat_abs z ≤ 1114151300) (sym given) (scaled-size (pos 1114151300) c.args.c1 1114151300 E (omega arith) c.requires.0)

  small2 : nat_abs c.scaled-2.result ≤ 2836500
  small2 = subst (λ (z : ℤ). nat_abs z ≤ 2836500) (sym given2) (scaled-size (pos 945500) c.args.c3 945500 (3 * E) (omega arith) c.requires.1)

  small3 : nat_abs c.scaled-3.result ≤ 6000
  small3 = subst (λ (z : ℤ). nat_abs z ≤ 6000) (sym given3) (scaled-size (pos 1200) c.args.c5 1200 (5 * E) (omega arith) c.requires.2)

  fits1 : SFits w64 c.scaled.result
  fits1 = record { sfits = c.scaled.type_inv }

  fits2 : SFits w64 c.scaled-2.result
  fits2 = record { sfits = c.scaled-2.type_inv }

  fits3 : SFits w64 c.scaled-3.result
  fits3 = record { sfits = c.scaled-3.type_inv }

  part : SFits w64 (c.scaled.result -ℤ c.scaled-2.result)
  part = fit64 _ (omega (arith, small, small2, abs_sub c.scaled.result c.scaled-2.result))

  whole : SFits w64 (c.scaled.result -ℤ c.scaled-2.result +ℤ c.scaled-3.result)
  whole = fit64 _ (omega (arith, small, small2, small3, abs_sub c.scaled.result c.scaled-2.result, abs_add (c.scaled.result -ℤ c.scaled-2.result) c.scaled-3.result))

pub overflow_add-result : goal.overflow_add-result
overflow_add-result c = simp (to_z-of_z (fits1 c), to_z-of_z (fits2 c), to_z-of_z (fits3 c), to_z-of_z (part c)) (whole c)

pub returns : goal.returns
returns c =
    simp (to_z-of_z (fits1 c), to_z-of_z (fits2 c), to_z-of_z (fits3 c), to_z-of_z (part c), to_z-of_z (whole c))
    (simp (given c, given2 c, given3 c))
