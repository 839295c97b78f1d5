use mathlib.Core.Path.{◌≡◌, sym, ap, ap₂, ◌∙◌, subst}
use Prim.Native.Nat.{◌*◌, ◌≤◌}
use native.Mathlib.Nat.{le_trans}
use native.Mathlib.Omega.{arith}
use lib.Dec.{T, lit≤}
use lib.IntN.{ℤ, pos, nat_abs, ◌+ℤ◌, ◌-ℤ◌, ◌*ℤ◌}
use lib.Signed.{non_neg}
use mir.Syntax.{w64}
use mir.Val.{Fits, to_z, of_z}
use Rattle.distance.specs.Distance.{◌÷◌, E, c1, c2, c3, c4, c5, P, Q}
use Rattle.ground.proofs.Signed.{back, size_of}
use Rattle.distance.proofs.Cosines.{c1-size, c2-size, c3-size, c4-size, c5-size, P_is, P-high, Q_is, Q-high}
use Rattle.distance.proofs.scales_at.Goals as goal
use Rattle.distance.proofs.scales_at.Goals.{After-cosine-c1, After-double_less-c2, After-double_less-c3, After-double_less-c4, After-double_less-c5, After-p_of-p, After-q_of-q}

-- `distance::scales_at` meets its contract: each local is the cosine that it is named after. Assumes nothing.
abbrev read : ℤ → ℤ
read r = to_z w64 (of_z w64 r)

is1 : (c : After-cosine-c1) → read c.cosine-c1.result ≡ c1 c.args.h
unfolding c1
is1 c = back c.cosine-c1.type_inv c.cosine-c1.ensures

is2 : (c : After-double_less-c2) → read c.double_less-c2.result ≡ c2 c.args.h
unfolding c2
is2 c = back c.double_less-c2.type_inv (c.double_less-c2.ensures ∙ ap (λ (z : ℤ). pos 2 *ℤ (z *ℤ z ÷ E) -ℤ pos E) (is1 c.before))

is4 : (c : After-double_less-c4) → read c.double_less-c4.result ≡ c4 c.args.h
unfolding c4
is4 c = back c.double_less-c4.type_inv (c.double_less-c4.ensures ∙ ap (λ (z : ℤ). pos 2 *ℤ (z *ℤ z ÷ E) -ℤ pos E) (is2 c.before))

is3 : (c : After-double_less-c3) → read c.double_less-c3.result ≡ c3 c.args.h
unfolding c3
is3 c = back c.double_less-c3.type_inv
    (c.double_less-c3.ensures ∙ ap₂ (λ (y z : ℤ). pos 2 *ℤ (y *ℤ z ÷ E) -ℤ y) (is1 c.before.before.before) (is2 c.before.before))

is5 : (c : After-double_less-c5) → read c.double_less-c5.result ≡ c5 c.args.h
unfolding c5
is5 c = back c.double_less-c5.type_inv
    (c.double_less-c5.ensures ∙ (λ i. pos 2 *ℤ (is1 c.before.before.before.before i *ℤ is4 c.before.before i ÷ E) -ℤ is3 c.before i))

pub double_less-c2-requires : goal.double_less-c2-requires
double_less-c2-requires c = let s = size_of E (is1 (goal.at.double_less-c2-requires c).After-cosine-c1) (c1-size _ c.requires) in
    (s, s, lit≤ tt)

pub double_less-c4-requires : goal.double_less-c4-requires
double_less-c4-requires c = let s = size_of E (is2 (goal.at.double_less-c4-requires c).After-double_less-c2) (c2-size _ c.requires) in
    (s, s, lit≤ tt)

pub double_less-c3-requires : goal.double_less-c3-requires
double_less-c3-requires c = let s = size_of E (is1 (goal.at.double_less-c3-requires c).After-cosine-c1) (c1-size _ c.requires) in
    (s, size_of E (is2 (goal.at.double_less-c3-requires c).After-double_less-c2) (c2-size _ c.requires), le_trans s (lit≤ tt))

pub double_less-c5-requires : goal.double_less-c5-requires
double_less-c5-requires c = (size_of E (is1 (goal.at.double_less-c5-requires c).After-cosine-c1) (c1-size _ c.requires), size_of E (is4 (goal.at.double_less-c5-requires c).After-double_less-c4) (c4-size _ c.requires), size_of (3 * E) (is3 (goal.at.double_less-c5-requires c).After-double_less-c3) (c3-size _ c.requires))

pub p_of-p-requires : goal.p_of-p-requires
p_of-p-requires c = let p = c.requires in
    (size_of E (is2 (goal.at.p_of-p-requires c).After-double_less-c2) (c2-size _ p), size_of E (is4 (goal.at.p_of-p-requires c).After-double_less-c4) (c4-size _ p))

pub q_of-q-requires : goal.q_of-q-requires
q_of-q-requires c = let p = c.requires in
    (size_of E (is1 (goal.at.q_of-q-requires c).After-cosine-c1) (c1-size _ p), size_of (3 * E) (is3 (goal.at.q_of-q-requires c).After-double_less-c3) (c3-size _ p), size_of (5 * E) (is5 (goal.at.q_of-q-requires c).After-double_less-c5) (c5-size _ p))

isP : (c : After-p_of-p) → read c.p_of-p.result ≡ P c.args.h
unfolding P
isP c = back c.p_of-p.type_inv (c.p_of-p.ensures ∙ ap₂ (λ (y z : ℤ). pos 1111320900 -ℤ pos 5660500 *ℤ y ÷ E +ℤ pos 12000 *ℤ z ÷ E) (is2 c.before.before.before.before) (is4 c.before.before.before))

isQ : (c : After-q_of-q) → read c.q_of-q.result ≡ Q c.args.h
unfolding Q
isQ c = back c.q_of-q.type_inv (c.q_of-q.ensures ∙ (λ i. pos 1114151300 *ℤ is1 c.before.before.before.before.before.before i ÷ E -ℤ pos 945500 *ℤ is3 c.before.before.before i ÷ E +ℤ pos 1200 *ℤ is5 c.before.before i ÷ E))

-- a number that is not negative, and what it is cast to
cast : {r z : ℤ} → r ≡ z → z ≡ pos (nat_abs z) → nat_abs z ≤ 1200000000 → T (non_neg r) × Fits w64 (nat_abs r)
cast {r} {z} e is most = subst (λ (y : ℤ). T (non_neg y) × Fits w64 (nat_abs y)) (sym (e ∙ is)) (tt, omega arith)

pub overflow_cast-p : goal.overflow_cast-p
overflow_cast-p c = cast (isP (goal.at.overflow_cast-p c).After-p_of-p) (P_is _ c.requires) (le_trans (P-high _ c.requires) (lit≤ tt))

pub overflow_cast-q : goal.overflow_cast-q
overflow_cast-q c = cast (isQ (goal.at.overflow_cast-q c).After-q_of-q) (Q_is _ c.requires) (le_trans (Q-high _ c.requires) (lit≤ tt))

pub returns : goal.returns
returns c = (ap (λ (z : ℤ). pos (nat_abs z)) (isP (goal.at.returns c).After-p_of-p) ∙ sym (P_is _ c.requires), ap (λ (z : ℤ). pos (nat_abs z)) (isQ (goal.at.returns c).After-q_of-q) ∙ sym (Q_is _ c.requires))
