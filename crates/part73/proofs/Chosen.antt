-- What each standard chooses: 1 Table A, 2 the lesser table, which keeps Table A's last column and has no separation above Table A's.
-- The chosen table is a table of separations. Assumes nothing.
use mathlib.Core.Path.{◌≡◌, refl, sym}
use mathlib.Core.Bool.{Bool, true, false}
use Prim.Native.Nat.{ℕ, ◌≤◌, ◌<◌}
use lib.Dec.{T, leb, eqb, lit<, leb→le, eqb→eq}
use Rattle.ground.specs.Guard.{given}
use Rattle.ground.proofs.Guards.{here, on}
use Rattle.ground.proofs.Ranges.{all3, at3}
use Rattle.part73.specs.TableA.{table_a, relation, relations}
use Rattle.part73.specs.Lesser.{lesser_relations, lesser}
use Rattle.part73.specs.Standards.{by_table_a, by_lesser, chosen}
use Rattle.part73.specs.Separations.{Separations}
use Rattle.part73.proofs.Facts.{table-a, lesser-table}

pub chosen_1 : chosen by_table_a ≡ table_a
unfolding chosen given
chosen_1 = refl

pub chosen_2 : chosen by_lesser ≡ lesser
unfolding chosen given
chosen_2 = refl

pub chosen-lesser : (standard : ℕ) → eqb standard by_lesser ≡ true → chosen standard ≡ lesser
unfolding chosen
chosen-lesser standard e = sym (here (eqb standard by_lesser) lesser table_a e refl)

pub chosen-a : (standard : ℕ) → eqb standard by_lesser ≡ false → chosen standard ≡ table_a
unfolding chosen
chosen-a standard e = sym (on (eqb standard by_lesser) lesser table_a e refl)

-- by whatever standard
pub chosen-table : (standard : ℕ) → Separations (chosen standard)
chosen-table standard = go (eqb standard by_lesser) refl
  where
    go : (b : Bool) → eqb standard by_lesser ≡ b → Separations (chosen standard)
    go true e = rw (chosen-lesser standard e) lesser-table
    go false e = rw (chosen-a standard e) table-a

-- the 10.6/10.8 MHz column, which the section does not list
all_kept : T (all3 8 8 1 (λ a b c. eqb (lesser a b 3) (table_a a b 3)))
unfolding lesser lesser_relations table_a relation relations
all_kept = tt

pub fourth_kept : (a b : ℕ) → a < 8 → b < 8 → lesser a b 3 ≡ table_a a b 3
fourth_kept a b ha hb = eqb→eq _ _ (at3 8 8 1 (λ a b c. eqb (lesser a b 3) (table_a a b 3)) all_kept a b 0 ha hb (lit< tt))

-- no lesser separation is above Table A's: where a column applies, and where none does
all_below : T (all3 8 8 5 (λ a b c. leb (lesser a b c) (table_a a b c)))
unfolding lesser lesser_relations table_a relation relations
all_below = tt

pub lesser-below : (a b c : ℕ) → a < 8 → b < 8 → c < 5 → lesser a b c ≤ table_a a b c
lesser-below a b c ha hb hc = leb→le _ _ (at3 8 8 5 (λ a b c. leb (lesser a b c) (table_a a b c)) all_below a b c ha hb hc)
