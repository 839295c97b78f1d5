use mathlib.Core.Path.{◌≡◌, sym, ap, subst}
use Prim.Native.Nat.{◌≤◌}
use native.Mathlib.Omega.{arith}
use lib.IntN.{ℤ, pos, nat_abs, ◌-ℤ◌, ◌*ℤ◌}
use mir.Syntax.{w64}
use mir.Val.{SFits}
use mir.Facts.{to_z-of_z}
use Rattle.distance.specs.Distance.{◌÷◌, E}
use Rattle.ground.proofs.Signed.{fit64, abs_mul, abs_sub}
use Rattle.distance.proofs.Cosines.{scaled-size}
use Rattle.distance.proofs.double_less.Goals as goal
use Rattle.distance.proofs.double_less.Goals.{After-scaled}

module _ (c : After-scaled) where
  -- what `scaled` gave
  given : c.scaled.result ≡ c.args.a *ℤ c.args.b ÷ E
  given = simp (to_z-of_z c.ranges.a, to_z-of_z c.ranges.b) at c.scaled.ensures

  s-size : nat_abs c.scaled.result ≤ 1000000000
  s-size = subst (λ (z : ℤ). nat_abs z ≤ 1000000000) (sym given) (scaled-size c.args.a c.args.b E E c.requires.0 c.requires.1)

  s-fits : SFits w64 c.scaled.result
  s-fits = record { sfits = c.scaled.type_inv }

  twice : SFits w64 (pos 2 *ℤ c.scaled.result)
  twice = fit64 _ (omega (arith, s-size, abs_mul (pos 2) c.scaled.result))

  less : SFits w64 (pos 2 *ℤ c.scaled.result -ℤ c.args.c)
  less = fit64 _ (omega (arith, s-size, abs_mul (pos 2) c.scaled.result, abs_sub (pos 2 *ℤ c.scaled.result) c.args.c))

pub returns : goal.returns
returns c =
    simp (to_z-of_z (s-fits c), to_z-of_z c.ranges.c, to_z-of_z (twice c), to_z-of_z (less c))
    (ap (λ (z : ℤ). pos 2 *ℤ z -ℤ c.args.c) (given c))
