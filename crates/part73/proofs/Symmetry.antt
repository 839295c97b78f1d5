-- No table of relations has an order of the two classes: not Table A, nor the lesser table.
-- Assumes nothing.
use mathlib.Core.Path.{◌≡◌, refl, ◌∙◌}
use mathlib.Core.Bool.{◌&&◌, and_comm, or_comm}
use mathlib.Core.List.{List, [], ◌∷◌}
use Prim.Native.Nat.{ℕ}
use lib.Dec.{eqb}
use Rattle.part73.specs.TableA.{Relation, ◌to◌∶◌, between, relation, relations, table_a}
use Rattle.part73.specs.Lesser.{lesser_relations, lesser}

between_swap : (a b : ℕ) (r : Relation) → between a b r ≡ between b a r
between_swap a b (x to y ∶ s) =
    or_comm (eqb a x && eqb b y) (eqb a y && eqb b x)
    ∙ rw (and_comm (eqb a x) (eqb b y), and_comm (eqb a y) (eqb b x))

relation_swap : (a b : ℕ) (rs : List Relation) → relation a b rs ≡ relation b a rs
unfolding relation
relation_swap a b [] = refl
relation_swap a b (r ∷ rs) = rw (between_swap a b r, relation_swap a b rs)

pub table_a_swap : (a b column : ℕ) → table_a a b column ≡ table_a b a column
unfolding table_a
table_a_swap a b column = rw (relation_swap a b relations)

pub lesser_swap : (a b column : ℕ) → lesser a b column ≡ lesser b a column
unfolding lesser
lesser_swap a b column = rw (relation_swap a b lesser_relations, table_a_swap a b column)
