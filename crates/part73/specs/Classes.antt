-- 01, Classes, zones, separations: class codes 0 to 7, zone codes 1 to 3, and the classes that a zone permits (47 CFR 73.210(a)).
-- Assumes nothing.
use Rattle.std.specs.Prelude.{Bool, cond, ◌||◌, List, [], ◌∷◌, ℕ, eqb, leb}
use Rattle.ground.specs.Lists.{some}

abbrev pub A : ℕ
A = 0

abbrev pub B1 : ℕ
B1 = 1

abbrev pub B : ℕ
B = 2

abbrev pub C3 : ℕ
C3 = 3

abbrev pub C2 : ℕ
C2 = 4

abbrev pub C1 : ℕ
C1 = 5

abbrev pub C0 : ℕ
C0 = 6

abbrev pub C : ℕ
C = 7

abbrev pub I : ℕ
I = 1

abbrev pub I-A : ℕ
I-A = 2

abbrev pub II : ℕ
II = 3

unfoldable pub is_class : ℕ → Bool
is_class class = leb class C

unfoldable pub is_zone : ℕ → Bool
is_zone zone = some (eqb zone) (I ∷ I-A ∷ II ∷ [])

-- Class A, B1 and B stations in Zones I and I-A; Class A, C3, C2, C1, C0 and C stations in Zone II
unfoldable pub classes_of : ℕ → List ℕ
classes_of zone =
    cond (eqb zone I || eqb zone I-A) (A ∷ B1 ∷ B ∷ [])
    (cond (eqb zone II) (A ∷ C3 ∷ C2 ∷ C1 ∷ C0 ∷ C ∷ []) [])

unfoldable pub permits : ℕ → ℕ → Bool
permits zone class = some (eqb class) (classes_of zone)
