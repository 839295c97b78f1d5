-- Table A: "Table 1 to paragraph (b)" of 47 CFR 73.207(b)(1), row by row as the document has it: a relation of two
-- classes, and the four separations in km. Assumes nothing.
use Rattle.std.specs.Prelude.{Bool, cond, ◌&&◌, ◌||◌, List, [], ◌∷◌, ℕ, eqb, get_or}
use Rattle.part73.specs.Classes.{A, B1, B, C3, C2, C1, C0, C}

-- a row: two classes; co-channel, 200 kHz, 400/600 kHz, 10.6/10.8 MHz
pub data Relation : Type 0 where
  ◌to◌∶◌ : ℕ → ℕ → List ℕ → Relation

infix 5 ◌to◌∶◌
unfoldable pub relations : List Relation
relations =
    (A to A ∶ 115 ∷ 72 ∷ 31 ∷ 10 ∷ []) ∷
    (A to B1 ∶ 143 ∷ 96 ∷ 48 ∷ 12 ∷ []) ∷
    (A to B ∶ 178 ∷ 113 ∷ 69 ∷ 15 ∷ []) ∷
    (A to C3 ∶ 142 ∷ 89 ∷ 42 ∷ 12 ∷ []) ∷
    (A to C2 ∶ 166 ∷ 106 ∷ 55 ∷ 15 ∷ []) ∷
    (A to C1 ∶ 200 ∷ 133 ∷ 75 ∷ 22 ∷ []) ∷
    (A to C0 ∶ 215 ∷ 152 ∷ 86 ∷ 25 ∷ []) ∷
    (A to C ∶ 226 ∷ 165 ∷ 95 ∷ 29 ∷ []) ∷
    (B1 to B1 ∶ 175 ∷ 114 ∷ 50 ∷ 14 ∷ []) ∷
    (B1 to B ∶ 211 ∷ 145 ∷ 71 ∷ 17 ∷ []) ∷
    (B1 to C3 ∶ 175 ∷ 114 ∷ 50 ∷ 14 ∷ []) ∷
    (B1 to C2 ∶ 200 ∷ 134 ∷ 56 ∷ 17 ∷ []) ∷
    (B1 to C1 ∶ 233 ∷ 161 ∷ 77 ∷ 24 ∷ []) ∷
    (B1 to C0 ∶ 248 ∷ 180 ∷ 87 ∷ 27 ∷ []) ∷
    (B1 to C ∶ 259 ∷ 193 ∷ 105 ∷ 31 ∷ []) ∷
    (B to B ∶ 241 ∷ 169 ∷ 74 ∷ 20 ∷ []) ∷
    (B to C3 ∶ 211 ∷ 145 ∷ 71 ∷ 17 ∷ []) ∷
    (B to C2 ∶ 241 ∷ 169 ∷ 74 ∷ 20 ∷ []) ∷
    (B to C1 ∶ 270 ∷ 195 ∷ 79 ∷ 27 ∷ []) ∷
    (B to C0 ∶ 272 ∷ 214 ∷ 89 ∷ 31 ∷ []) ∷
    (B to C ∶ 274 ∷ 217 ∷ 105 ∷ 35 ∷ []) ∷
    (C3 to C3 ∶ 153 ∷ 99 ∷ 43 ∷ 14 ∷ []) ∷
    (C3 to C2 ∶ 177 ∷ 117 ∷ 56 ∷ 17 ∷ []) ∷
    (C3 to C1 ∶ 211 ∷ 144 ∷ 76 ∷ 24 ∷ []) ∷
    (C3 to C0 ∶ 226 ∷ 163 ∷ 87 ∷ 27 ∷ []) ∷
    (C3 to C ∶ 237 ∷ 176 ∷ 96 ∷ 31 ∷ []) ∷
    (C2 to C2 ∶ 190 ∷ 130 ∷ 58 ∷ 20 ∷ []) ∷
    (C2 to C1 ∶ 224 ∷ 158 ∷ 79 ∷ 27 ∷ []) ∷
    (C2 to C0 ∶ 239 ∷ 176 ∷ 89 ∷ 31 ∷ []) ∷
    (C2 to C ∶ 249 ∷ 188 ∷ 105 ∷ 35 ∷ []) ∷
    (C1 to C1 ∶ 245 ∷ 177 ∷ 82 ∷ 34 ∷ []) ∷
    (C1 to C0 ∶ 259 ∷ 196 ∷ 94 ∷ 37 ∷ []) ∷
    (C1 to C ∶ 270 ∷ 209 ∷ 105 ∷ 41 ∷ []) ∷
    (C0 to C0 ∶ 270 ∷ 207 ∷ 96 ∷ 41 ∷ []) ∷
    (C0 to C ∶ 281 ∷ 220 ∷ 105 ∷ 45 ∷ []) ∷
    (C to C ∶ 290 ∷ 241 ∷ 105 ∷ 48 ∷ []) ∷
    []

-- a row speaks of the classes a and b in whichever order
abbrev pub between : ℕ → ℕ → Relation → Bool
between a b (x to y ∶ s) = (eqb a x && eqb b y) || (eqb a y && eqb b x)

abbrev pub columns : Relation → List ℕ
columns (x to y ∶ s) = s

-- the columns of the first row that speaks of a and b
unfoldable pub relation : ℕ → ℕ → List Relation → List ℕ
relation a b [] = []
relation a b (r ∷ rs) = cond (between a b r) (columns r) (relation a b rs)

-- the separation of the classes a and b at a column; 0 where there is none
unfoldable pub table_a : ℕ → ℕ → ℕ → ℕ
table_a a b column = get_or (relation a b relations) column 0
