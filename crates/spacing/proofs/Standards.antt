-- The pair rule by the chosen table: demand 2 in the owner's words for each standard, and what 2 says of 1. Assumes nothing.
use mathlib.Core.Path.{◌≡◌, refl, sym, ◌∙◌}
use mathlib.Core.Logic.{◌↔◌}
use mathlib.Core.Bool.{Bool, true, false, true≢false}
use Prim.Native.Nat.{ℕ, ◌<◌}
use native.Mathlib.Nat.{lt_of_lt_of_le}
use native.Mathlib.Omega.{arith}
use borrow.Author.Tests.{ltb-true, lt-ltb}
use Rattle.distance.specs.Distance.{Placed}
use Rattle.part73.specs.Lesser.{lesser}
use Rattle.part73.specs.Standards.{by_table_a, by_lesser, chosen}
use Rattle.part73.proofs.Chosen.{chosen_1, chosen_2, chosen-table, lesser-below}
use Rattle.spacing.specs.Pair.{Assignment, column_for, separation, distance_of, short_by}
use Rattle.spacing.specs.Meaning.{HeldShort}
use Rattle.spacing.proofs.Rule.{columns_only}
use Rattle.spacing.proofs.Meaning.{held-short}

-- a pair is held short by a standard exactly as the owner words it by the chosen table, in either order of the pair
pub held_short_by_chosen : (standard : ℕ) (p q : Assignment) → p.class < 8 → q.class < 8 → Placed p.latitude p.longitude → Placed q.latitude q.longitude
    → ((short_by (chosen standard) p q ≡ true) ↔ HeldShort (chosen standard) p q) × ((short_by (chosen standard) q p ≡ true) ↔ HeldShort (chosen standard) p q)
held_short_by_chosen standard = held-short (chosen-table standard)

module _ (p q : Assignment) (known : p.class < 8) (known' : q.class < 8) where
  -- a pair that is short by 2 is short by 1
  pub short_by_2 : short_by (chosen by_lesser) p q ≡ true → short_by (chosen by_table_a) p q ≡ true
  unfolding short_by separation
  short_by_2 e =
      let x = p.channel in
      let y = q.channel in
      let l : distance_of p q < lesser p.class q.class (column_for x y) = ltb-true _ _ (rw chosen_2 at e) in
      let k = lesser-below p.class q.class (column_for x y) known known' (omega (arith, columns_only x y)) in
      rw chosen_1 (lt-ltb _ _ (lt_of_lt_of_le l k))

  -- so a pair that is spaced by 1 is spaced by 2
  pub spaced_by_1 : short_by (chosen by_table_a) p q ≡ false → short_by (chosen by_lesser) p q ≡ false
  spaced_by_1 e = go (short_by (chosen by_lesser) p q) refl
    where
      go : (b : Bool) → short_by (chosen by_lesser) p q ≡ b → short_by (chosen by_lesser) p q ≡ false
      go true t = absurd (true≢false (sym (short_by_2 t) ∙ e))
      go false f = f
