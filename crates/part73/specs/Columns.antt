-- 01, Classes, zones, separations: the column of Table A that a channel difference reads. Assumes nothing.
use Rattle.std.specs.Prelude.{◌≡◌, ◌||◌, ℕ, ◌+◌, ◌-◌, ◌<◌, eqb, Option, MatchOption}
use Rattle.ground.specs.Guard.{given}

-- the absolute difference of two channels
unfoldable pub gap : ℕ → ℕ → ℕ
gap x y = (x - y) + (y - x)

-- the mark of no requirement: past the four columns
abbrev pub none : ℕ
none = 4

-- 0: co-channel; 1: 200 kHz; 2, 3: 400/600 kHz; 53, 54: 10.6/10.8 MHz
unfoldable pub column : ℕ → ℕ
column d = given (eqb d 0) 0 (given (eqb d 1) 1 (given (eqb d 2 || eqb d 3) 2 (given (eqb d 53 || eqb d 54) 3 none)))

-- an answer has the column k, if it is one of the four, and nothing if there is no requirement
abbrev pub IsColumn : ℕ → Option ℕ → Type 0
IsColumn k answer = MatchOption answer (k ≡ none) (λ c. (c ≡ k) × (c < none))
