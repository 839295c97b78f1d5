-- Which tables are tables of separations: those that pass tests which antt computes over the whole table. Table A does, and the
-- lesser table. And what each column means. Assumes nothing.
use mathlib.Core.Path.{◌≡◌}
use Prim.Native.Nat.{ℕ, zero, suc, ◌≤◌, ◌<◌}
use native.Mathlib.Omega.{arith}
use lib.Dec.{T, leb, ltb, eqb, lit<, ltb→lt, leb→le, eqb→eq}
use borrow.Author.Tests.{ne_eqb}
use Rattle.ground.specs.Guard.{given}
use Rattle.ground.proofs.Ranges.{all3, at3}
use Rattle.part73.specs.Columns.{column, none}
use Rattle.part73.specs.TableA.{table_a, relation, relations}
use Rattle.part73.specs.Lesser.{lesser_relations, lesser}
use Rattle.part73.specs.Separations.{Separations}
use Rattle.part73.proofs.Symmetry.{table_a_swap, lesser_swap}

-- the tests
record Tested (km : ℕ → ℕ → ℕ → ℕ) : Type 0 where
  above : T (all3 8 8 4 (λ a b c. ltb 0 (km a b c)))
  end : T (all3 8 8 1 (λ a b c. eqb (km a b none) 0))
  falls : T (all3 8 8 3 (λ a b c. ltb (km a b (suc c)) (km a b c)))
  widest : T (all3 8 8 1 (λ a b c. leb (km a b 0) (km a 7 0)))
  most : T (all3 8 8 4 (λ a b c. leb (km a b c) 290))

separations : {km : ℕ → ℕ → ℕ → ℕ} → ((a b c : ℕ) → km a b c ≡ km b a c) → Tested km → Separations km
separations {km} either t =
    record {
      either = either;
      above = λ a b c ha hb hc. ltb→lt _ _ (at3 8 8 4 (λ a b c. ltb 0 (km a b c)) t.above a b c ha hb hc);
      ends = λ a b ha hb. eqb→eq _ _ (at3 8 8 1 (λ a b c. eqb (km a b none) 0) t.end a b 0 ha hb (lit< tt));
      falls = λ a b c ha hb hc. ltb→lt _ _ (at3 8 8 3 (λ a b c. ltb (km a b (suc c)) (km a b c)) t.falls a b c ha hb hc);
      widest = λ a b ha hb. leb→le _ _ (at3 8 8 1 (λ a b c. leb (km a b 0) (km a 7 0)) t.widest a b 0 ha hb (lit< tt));
      most = λ a b c ha hb hc. leb→le _ _ (at3 8 8 4 (λ a b c. leb (km a b c) 290) t.most a b c ha hb hc);
    }

tested_a : Tested table_a
unfolding table_a relation relations
tested_a = record { above = tt; end = tt; falls = tt; widest = tt; most = tt }

tested_lesser : Tested lesser
unfolding lesser lesser_relations table_a relation relations
tested_lesser = record { above = tt; end = tt; falls = tt; widest = tt; most = tt }

pub table-a : Separations table_a
table-a = separations table_a_swap tested_a

pub lesser-table : Separations lesser
lesser-table = separations lesser_swap tested_lesser

-- ---- the columns

pub column-low : (d : ℕ) → d ≤ 3 → column d < 3
unfolding column given
column-low zero h = lit< tt
column-low (suc zero) h = lit< tt
column-low (suc (suc zero)) h = lit< tt
column-low (suc (suc (suc zero))) h = lit< tt
column-low (suc (suc (suc (suc d)))) h = absurd (omega arith)

pub column_53 : (d : ℕ) → d ≡ 53 → column d ≡ 3
unfolding column given
column_53 d e = rw e

pub column_54 : (d : ℕ) → d ≡ 54 → column d ≡ 3
unfolding column given
column_54 d e = rw e

pub column_none : (d : ℕ) → 3 < d → (d ≡ 53 → ⊥) → (d ≡ 54 → ⊥) → column d ≡ none
unfolding column given
column_none d h n m =
    rw (ne_eqb d 0 (λ e. omega arith), ne_eqb d 1 (λ e. omega arith), ne_eqb d 2 (λ e. omega arith), ne_eqb d 3 (λ e. omega arith), ne_eqb d 53 n, ne_eqb d 54 m)
