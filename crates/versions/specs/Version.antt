-- 01, The table image, and 02, R-3: the versions of the image, and how many records each carries. All that a further version
-- changes. Assumes nothing.
use Rattle.std.specs.Prelude.{Bool, ◌&&◌, ◌||◌, ℕ, ltb, leb, eqb}
use Rattle.ground.specs.Guard.{given}

-- the papers have this version (else 3)
unfoldable pub known : ℕ → Bool
known v = eqb v 1 || eqb v 2

-- the line between the versions
unfoldable pub line : ℕ
line = 2000

-- no list is longer (else 21)
unfoldable pub limit : ℕ
limit = 4000

-- it carries so many records (else 5): version 1 up to the line, version 2 from above it to the limit
unfoldable pub carries : ℕ → ℕ → Bool
carries v n = eqb v 1 && leb n line || eqb v 2 && (ltb line n && leb n limit)

-- the highest flags of its records (above it 10): bit 0 means fixed, other bits are zero
unfoldable pub top : ℕ → ℕ
top v = 1

-- the version that a list of so many records calls for
unfoldable pub version_for : ℕ → ℕ
version_for n = given (leb n line) 1 2
