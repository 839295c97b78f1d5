-- 01, The programs; 02, R-2, R-6: the lines that a program prints, as bytes. Assumes nothing.
use Rattle.std.specs.Prelude.{cond, List, [], ◌∷◌, ◌++◌, ℕ, zero, suc, ◌+◌, ◌*◌, ◌/◌, ◌%◌, ltb, get_or}
use Rattle.refusals.specs.declared.Refusal.{Refusal}

-- a number in decimal, of at most k digits
unfoldable pub digits_of : ℕ → ℕ → List ℕ
digits_of zero n = []
digits_of (suc k) n = cond (ltb n 10) [] (digits_of k (n / 10)) ++ ((48 + n % 10) ∷ [])

-- a number of 32 bits in decimal
unfoldable pub decimal : ℕ → List ℕ
decimal n = digits_of 10 n

-- a number, and the byte after it
unfoldable pub number_then : ℕ → ℕ → List ℕ
number_then n byte = decimal n ++ (byte ∷ [])

-- one space between, and the line's end
abbrev pub spaced : ℕ → List ℕ
spaced n = number_then n 32

abbrev pub ended : ℕ → List ℕ
ended n = number_then n 10

-- `id D R`; `channel id moved`
unfoldable pub row_line : ℕ → ℕ → ℕ → List ℕ
row_line a b c = spaced a ++ (spaced b ++ ended c)

-- `id D R column standard`: numbers, on one line
unfoldable pub numbers_line : List ℕ → List ℕ
numbers_line [] = []
numbers_line (a ∷ []) = ended a
numbers_line (a ∷ b ∷ vs) = spaced a ++ numbers_line (b ∷ vs)

-- `clear`
unfoldable pub clear_line : List ℕ
clear_line = 99 ∷ 108 ∷ 101 ∷ 97 ∷ 114 ∷ 10 ∷ []

-- `short K`
unfoldable pub short_line : ℕ → List ℕ
short_line k = 115 ∷ 104 ∷ 111 ∷ 114 ∷ 116 ∷ 32 ∷ ended k

-- `refused N P`
unfoldable pub refused_line : Refusal → List ℕ
refused_line f = 114 ∷ 101 ∷ 102 ∷ 117 ∷ 115 ∷ 101 ∷ 100 ∷ 32 ∷ (spaced f.number ++ ended f.extra)

-- inside: the line of the row at a position, of numbers that come in threes
unfoldable pub line_at : List ℕ → ℕ → List ℕ
line_at vs j = row_line (get_or vs (3 * j) 0) (get_or vs (3 * j + 1) 0) (get_or vs (3 * j + 2) 0)
