-- 02, R-6: the lesser separations, "the following minimum distance separation requirements" of 47 CFR 73.215(e), row by row as the
-- document has it: a relation of two classes, and the three separations in km that it lists. Assumes nothing.
use Rattle.std.specs.Prelude.{List, [], ◌∷◌, ℕ, get_or}
use Rattle.part73.specs.Classes.{A, B1, B, C3, C2, C1, C0, C}
use Rattle.part73.specs.TableA.{Relation, ◌to◌∶◌, relation, table_a}

-- co-channel, 200 kHz, 400/600 kHz
unfoldable pub lesser_relations : List Relation
lesser_relations =
    (A to A ∶ 92 ∷ 49 ∷ 25 ∷ []) ∷
    (A to B1 ∶ 119 ∷ 72 ∷ 42 ∷ []) ∷
    (A to B ∶ 143 ∷ 96 ∷ 63 ∷ []) ∷
    (A to C3 ∶ 119 ∷ 72 ∷ 36 ∷ []) ∷
    (A to C2 ∶ 143 ∷ 89 ∷ 49 ∷ []) ∷
    (A to C1 ∶ 178 ∷ 111 ∷ 69 ∷ []) ∷
    (A to C0 ∶ 193 ∷ 130 ∷ 80 ∷ []) ∷
    (A to C ∶ 203 ∷ 142 ∷ 89 ∷ []) ∷
    (B1 to B1 ∶ 143 ∷ 96 ∷ 44 ∷ []) ∷
    (B1 to B ∶ 178 ∷ 114 ∷ 65 ∷ []) ∷
    (B1 to C3 ∶ 143 ∷ 96 ∷ 44 ∷ []) ∷
    (B1 to C2 ∶ 175 ∷ 114 ∷ 50 ∷ []) ∷
    (B1 to C1 ∶ 200 ∷ 134 ∷ 71 ∷ []) ∷
    (B1 to C0 ∶ 215 ∷ 153 ∷ 81 ∷ []) ∷
    (B1 to C ∶ 233 ∷ 165 ∷ 99 ∷ []) ∷
    (B to B ∶ 211 ∷ 145 ∷ 68 ∷ []) ∷
    (B to C3 ∶ 178 ∷ 114 ∷ 65 ∷ []) ∷
    (B to C2 ∶ 211 ∷ 145 ∷ 68 ∷ []) ∷
    (B to C1 ∶ 241 ∷ 169 ∷ 73 ∷ []) ∷
    (B to C0 ∶ 266 ∷ 195 ∷ 83 ∷ []) ∷
    (B to C ∶ 268 ∷ 195 ∷ 99 ∷ []) ∷
    (C3 to C3 ∶ 142 ∷ 89 ∷ 37 ∷ []) ∷
    (C3 to C2 ∶ 166 ∷ 106 ∷ 50 ∷ []) ∷
    (C3 to C1 ∶ 200 ∷ 133 ∷ 70 ∷ []) ∷
    (C3 to C0 ∶ 215 ∷ 152 ∷ 81 ∷ []) ∷
    (C3 to C ∶ 226 ∷ 165 ∷ 90 ∷ []) ∷
    (C2 to C2 ∶ 177 ∷ 117 ∷ 52 ∷ []) ∷
    (C2 to C1 ∶ 211 ∷ 144 ∷ 73 ∷ []) ∷
    (C2 to C0 ∶ 227 ∷ 163 ∷ 83 ∷ []) ∷
    (C2 to C ∶ 237 ∷ 176 ∷ 96 ∷ []) ∷
    (C1 to C1 ∶ 224 ∷ 158 ∷ 76 ∷ []) ∷
    (C1 to C0 ∶ 239 ∷ 176 ∷ 88 ∷ []) ∷
    (C1 to C ∶ 249 ∷ 188 ∷ 99 ∷ []) ∷
    (C0 to C0 ∶ 259 ∷ 196 ∷ 90 ∷ []) ∷
    (C0 to C ∶ 270 ∷ 207 ∷ 99 ∷ []) ∷
    (C to C ∶ 270 ∷ 209 ∷ 99 ∷ []) ∷
    []

-- the separation of the classes a and b at a column: relations and columns that are not listed keep their Table A value
unfoldable pub lesser : ℕ → ℕ → ℕ → ℕ
lesser a b column = get_or (relation a b lesser_relations) column (table_a a b column)
