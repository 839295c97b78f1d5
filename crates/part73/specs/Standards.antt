-- 02, R-6: the standards by which a study may be made, and the table of separations that each chooses. Assumes nothing.
use Rattle.std.specs.Prelude.{Bool, ◌||◌, ℕ, eqb}
use Rattle.ground.specs.Guard.{given}
use Rattle.part73.specs.TableA.{table_a}
use Rattle.part73.specs.Lesser.{lesser}

-- 1 for Table A, 2 for the lesser table
abbrev pub by_table_a : ℕ
by_table_a = 1

abbrev pub by_lesser : ℕ
by_lesser = 2

unfoldable pub is_standard : ℕ → Bool
is_standard standard = eqb standard by_table_a || eqb standard by_lesser

-- the chosen table; a number that is no standard chooses nothing, and what it is given here is never asked for
unfoldable pub chosen : ℕ → ℕ → ℕ → ℕ → ℕ
chosen standard = given (eqb standard by_lesser) lesser table_a
