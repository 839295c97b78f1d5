-- Limits that are so by some scale, whichever, are so by the least that would do. Assumes nothing.
use mathlib.Core.Path.{◌≡◌, sym, subst}
use mathlib.Core.Logic.{∥∥₁_elim}
use Prim.Native.Nat.{ℕ, zero, suc, ◌+◌, ◌≤◌, ◌<◌}
use native.Mathlib.Bridge.{le_prop}
use native.Mathlib.Decide.{ℕ_discrete, dec_le, dec_lt}
use mathlib.Core.Logic.Dec.{and}
use native.Mathlib.Omega.{arith}
use Rattle.std.proofs.Props.{props}
use Rattle.spacing.specs.Limits.{east_of, east_at, LimitsAt}
use Rattle.spacing.specs.declared.Limits.{Limits}
use Rattle.spacing.specs.declared.Place.{Place}

-- whether two functions are equal below n
dec_each : (f g : ℕ → ℕ) (n : ℕ) → Dec ((b : ℕ) → b < n → f b ≡ g b)
dec_each f g zero = yes (λ b h. absurd (omega arith))
dec_each f g (suc n) = go (ℕ_discrete (f n) (g n)) (dec_each f g n)
  where
    go : Dec (f n ≡ g n) → Dec ((b : ℕ) → b < n → f b ≡ g b) → Dec ((b : ℕ) → b < suc n → f b ≡ g b)
    go (yes e) (yes w) = yes (λ b h. one b h (dec_lt b n))
      where
        one : (b : ℕ) → b < suc n → Dec (b < n) → f b ≡ g b
        one b h (yes l) = w b l
        one b h (no l) = let same : b ≡ n = omega (arith, h) in rw same e
    go (no e) _ = no (λ w. e (w n (omega arith)))
    go _ (no u) = no (λ w. u (λ b h. w b (omega (arith, h))))

module _ (km : ℕ → ℕ → ℕ → ℕ) (p : Place) (limits : Limits) where
  -- the seconds of longitude go by a scale, of 100,000,000 or more
  abbrev By : ℕ → Type 0
  By r = (100000000 ≤ r) × ((b : ℕ) → b < 8 → east_at limits b ≡ east_of r (km p.class b 0))

  by : (r : ℕ) → Dec (By r)
  by r = and (dec_le 100000000 r) (dec_each (east_at limits) (λ b. east_of r (km p.class b 0)) 8)

  pick : {r : ℕ} → Dec (By r) → ℕ → ℕ
  pick {r} (yes _) rest = r
  pick (no _) rest = rest

  -- the first of n scales from k on by which they go
  first_by : ℕ → ℕ → ℕ
  first_by zero k = k
  first_by (suc n) k = pick (by k) (first_by n (suc k))

  first_is : (n k r : ℕ) → k ≤ r → r < k + n → By r → By (first_by n k) × (first_by n k ≤ r)
  unfolding first_by pick
  first_is zero k r h l w = absurd (omega (arith, h, l))
  first_is (suc n) k r h l w = go (by k) (ℕ_discrete k r) (λ g. first_is n (suc k) r g (omega (arith, l)) w)
    where
      left : ℕ
      left = first_by n (suc k)

      go : (d : Dec (By k)) → Dec (k ≡ r) → (suc k ≤ r → By left × (left ≤ r)) → By (pick d left) × (pick d left ≤ r)
      go (yes b) _ _ = (b, h)
      go (no u) (yes e) _ = absurd (u (subst By (sym e) w))
      go (no u) (no f) rest = rest (omega (arith, h))

  -- of all that a `LeastScale` may be
  least : ℕ
  least = first_by 1100000001 100000000

  least_is : (w : LimitsAt km p limits) → By least × (least ≤ w.scale)
  unfolding least
  least_is w = first_is 1100000001 100000000 w.scale w.least.some (omega (arith, w.least.most)) (w.least.some, w.east)

-- a truncated `LimitsAt` is one
pub untruncated : {km : ℕ → ℕ → ℕ → ℕ} {p : Place} {limits : Limits} → ∥ LimitsAt km p limits ∥₁ → LimitsAt km p limits
untruncated {km} {p} {limits} held =
    let at = least_is km p limits in
    record {
      square = ∥∥₁_elim held (hlevel props) (λ w. w.square);
      north = ∥∥₁_elim held (hlevel props) (λ w. w.north);
      scale = least km p limits;
      least = record {
        some = ∥∥₁_elim held le_prop (λ w. (at w).0.0);
        most = ∥∥₁_elim held le_prop (λ w. omega (arith, w.least.most, (at w).1));
        at = λ lat2 a b. ∥∥₁_elim held le_prop (λ w. omega (arith, w.least.at lat2 a b, (at w).1));
      };
      east = ∥∥₁_elim held (hlevel props) (λ w. (at w).0.1);
    }
