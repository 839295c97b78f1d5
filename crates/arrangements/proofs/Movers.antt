-- On a blocked channel only the one station that blocks it alone may move. Over any scene. Assumes nothing.
use mathlib.Core.Path.{◌≡◌, refl, sym, ap, ◌∙◌}
use mathlib.Core.Logic.{◌↔◌}
use mathlib.Core.List.{[], map}
use mathlib.Core.Bool.{Bool, true, false, not, ◌||◌, true≢false}
use Prim.Native.Nat.{ℕ, ◌<◌}
use native.Mathlib.Omega.{arith}
use native.Mathlib.Decide.{ℕ_discrete}
use lib.Dec.{eqb}
use borrow.Author.Tests.{ne_eqb, not-true}
use Rattle.ground.specs.Lists.{span}
use Rattle.ground.specs.Rows.{row}
use Rattle.ground.proofs.Guards.{and_was}
use Rattle.ground.proofs.Keeps.{every_in}
use Rattle.ground.proofs.Spans.{keep_none, each_none, each-single}
use Rattle.ground.proofs.Order.{in_span}
use Rattle.part73.specs.Channels.{new_channels}
use Rattle.planning.specs.Scene.{Scene, new_but, moved_but, allowed}
use Rattle.arrangements.specs.Placed.{clear, moves_of, moves}

module _ (t : Scene) (c : ℕ) where
  -- the new station on c is short to nobody
  abbrev pub Clear : Type 0
  Clear = (j : ℕ) → j < t.size → t.new c j ≡ false

  pub clear_is : (clear t c ≡ true) ↔ Clear
  unfolding clear
  clear_is = (
    λ e j h. not-true _ ((every_in (λ j. not (t.new c j)) (span 0 t.size)).0 e j ((in_span j t.size 0).1 (omega arith, omega arith))),
    λ f. (every_in (λ j. not (t.new c j)) (span 0 t.size)).1 (λ j m. ap not (f j (omega (arith, ((in_span j t.size 0).0 m).1)))),
  )

  -- where a move is allowed, no other stands in the way
  others_clear : (i m : ℕ) → allowed t c i m ≡ true → (j : ℕ) → j < t.size → (j ≡ i → ⊥) → t.new c j ≡ false
  unfolding allowed new_but
  others_clear i m e j h ne =
      let a = and_was (t.movable i) _ e in
      let b = and_was (not (eqb m (t.channel i))) _ a.1 in
      let d = and_was (moved_but t i m) _ b.1 in
      let f = and_was (new_but t i c) _ d.1 in
      not-true _ (rw (ne_eqb j i ne) at ((every_in (λ j. eqb j i || not (t.new c j)) (span 0 t.size)).0 f.0 j ((in_span j t.size 0).1 (omega arith, omega arith))))

  -- ---- the one at i blocks c, and no other does
  pub record LoneBlocker (i : ℕ) : Type 0 where
    pub blocks : t.new c i ≡ true
    pub alone : (j : ℕ) → j < t.size → t.new c j ≡ true → j ≡ i

  -- a blocked channel admits a move only where exactly one station blocks it, and then of that one
  only_blocker : (i m : ℕ) → (Clear → ⊥) → allowed t c i m ≡ true → LoneBlocker i
  only_blocker i m blocked e = record { blocks = here (t.new c i) refl; alone = λ j h q. same j h q (ℕ_discrete j i) }
    where
      here : (b : Bool) → t.new c i ≡ b → t.new c i ≡ true
      here true q = q
      here false q = absurd (blocked (λ j h. elim (ℕ_discrete j i) [ yes e ↦ ap (t.new c) e ∙ q | no ne ↦ others_clear i m e j h ne ]))

      same : (j : ℕ) → j < t.size → t.new c j ≡ true → Dec (j ≡ i) → j ≡ i
      same j h q (yes e) = e
      same j h q (no ne) = absurd (true≢false (sym q ∙ others_clear i m e j h ne))

  -- so nothing is allowed to another
  not_allowed : (i m : ℕ) → (Clear → ⊥) → (LoneBlocker i → ⊥) → allowed t c i m ≡ false
  not_allowed i m blocked other = go (allowed t c i m) refl
    where
      go : (b : Bool) → allowed t c i m ≡ b → allowed t c i m ≡ false
      go true e = absurd (other (only_blocker i m blocked e))
      go false e = e

  none : (i : ℕ) → (Clear → ⊥) → (LoneBlocker i → ⊥) → moves_of t c i ≡ []
  unfolding moves_of
  none i blocked other = ap (map (λ m. row c (t.id i) m)) (keep_none (allowed t c i) new_channels (λ m. not_allowed i m blocked other))

  -- two block it: nothing moves
  pub no_moves : (a b : ℕ) → a < b → b < t.size → t.new c a ≡ true → t.new c b ≡ true → (Clear → ⊥) → moves t c ≡ []
  unfolding moves
  no_moves a b l h p q blocked =
      each_none (moves_of t c) t.size 0 (λ i lo hi. none i blocked (λ w. omega (arith, w.alone a (omega arith) p, w.alone b h q)))

  -- one does: what moves, if any, is that one
  pub moves_of_lem : (a : ℕ) → a < t.size → t.new c a ≡ true → (Clear → ⊥) → moves t c ≡ moves_of t c a
  unfolding moves
  moves_of_lem a h q blocked =
      each-single (moves_of t c) t.size 0 a (omega arith) (omega arith) (λ i lo hi ne. none i blocked (λ w. ne (sym (w.alone a h q))))
