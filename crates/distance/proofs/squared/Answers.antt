use mathlib.Core.Path.{◌≡◌, ap, ap₂, ◌∙◌}
use Prim.Native.Nat.{ℕ, ◌+◌, ◌*◌, ◌/◌}
use native.Mathlib.Omega.{arith}
use lib.IntN.{ℤ, pos, nat_abs, ◌*ℤ◌}
use Rattle.distance.specs.Distance.{◌÷◌, lat_gap, lon_gap, P, Q, NS, EW, S}
use Rattle.distance.proofs.Cosines.{P-high, Q-high}
use Rattle.distance.proofs.Sites.{norths, easts, degree}
use Rattle.distance.proofs.Squares.{h_le, lat_gap_lem, lon_gap_lem, NS-size, EW-size, S-size}
use Rattle.distance.proofs.squared.Goals as goal
use Rattle.distance.proofs.squared.Goals.{After-along-ew, After-along-ns}

-- n seconds at a degree that is not negative
leg : {r : ℕ} (n m p : ℕ) {z : ℤ} → r ≡ n * p / 3600000 → n ≡ m → pos p ≡ z → r ≡ nat_abs (pos m *ℤ z ÷ 3600000)
leg n m p e f g = e ∙ ap (λ (k : ℕ). k * p / 3600000) f ∙ ap (λ (y : ℤ). nat_abs (pos m *ℤ y ÷ 3600000)) g

isNS : (c : After-along-ns) → c.along-ns.result ≡ nat_abs (NS c.args.a.latitude c.args.b.latitude)
unfolding NS
isNS c = let a = c.requires.0 in
    let b = c.requires.1 in
    leg _ _ _ c.along-ns.ensures (norths a b lat_gap c.gap_size.ensures) (degree a b P c.scales_at-k.ensures.0 c.sum_size.ensures)

isEW : (c : After-along-ew) → c.along-ew.result ≡ nat_abs (EW c.args.a.latitude c.args.a.longitude c.args.b.latitude c.args.b.longitude)
unfolding EW
isEW c = let a = c.requires.0 in
    let b = c.requires.1 in
    leg _ _ _ c.along-ew.ensures (easts a b lon_gap c.lon_gap.ensures) (degree a b Q c.scales_at-k.ensures.1 c.sum_size.ensures)

-- the squares of both legs
whole : (lat1 lon1 lat2 lon2 : ℤ) {m n ns ew : ℕ} → m ≡ ns * ns → ns ≡ nat_abs (NS lat1 lat2) → n ≡ ew * ew → ew ≡ nat_abs (EW lat1 lon1 lat2 lon2) → m + n ≡ S lat1 lon1 lat2 lon2
unfolding S
whole lat1 lon1 lat2 lon2 e f g h = ap₂ ◌+◌ (e ∙ ap (λ (k : ℕ). k * k) f) (g ∙ ap (λ (k : ℕ). k * k) h)

pub along-ns-requires : goal.along-ns-requires
along-ns-requires c = let a = c.requires.0 in
    let b = c.requires.1 in
    (omega (arith, norths a b lat_gap c.gap_size.ensures, lat_gap_lem a b), omega (arith, ap nat_abs (degree a b P c.scales_at-k.ensures.0 c.sum_size.ensures), P-high _ (h_le a b)))

pub along-ew-requires : goal.along-ew-requires
along-ew-requires c = let a = c.requires.0 in
    let b = c.requires.1 in
    (omega (arith, easts a b lon_gap c.lon_gap.ensures, lon_gap_lem a b), omega (arith, ap nat_abs (degree a b Q c.scales_at-k.ensures.1 c.sum_size.ensures), Q-high _ (h_le a b)))

pub square-requires : goal.square-requires
square-requires c = omega (arith, isNS (goal.at.square-requires c).After-along-ns, NS-size c.requires.0 c.requires.1)

pub square-requires-2 : goal.square-requires-2
square-requires-2 c = omega (arith, isEW (goal.at.square-requires-2 c).After-along-ew, EW-size c.requires.0 c.requires.1)

pub overflow_add-result : goal.overflow_add-result
overflow_add-result c = let at = goal.at.overflow_add-result c in
    omega (arith, whole _ _ _ _ c.square.ensures (isNS at.After-along-ns) c.square-2.ensures (isEW at.After-along-ew), S-size c.requires.0 c.requires.1)

pub returns : goal.returns
returns c = let at = goal.at.returns c in whole _ _ _ _ c.square.ensures (isNS at.After-along-ns) c.square-2.ensures (isEW at.After-along-ew)
