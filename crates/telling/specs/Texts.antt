-- 01, The programs; 02, R-2, R-6: the text of what is granted, as bytes. Assumes nothing.
use Rattle.refusals.specs.Faults.{Answer, refusal}
use Rattle.std.specs.Prelude.{List, [], ◌∷◌, ◌++◌, ℕ, ◌/◌, length, Ok, Err}
use Rattle.desk.specs.Answers.{Outcome, grant, deny}
use Rattle.lines.specs.Lines.{ended, row_line, numbers_line, clear_line, short_line, refused_line}

-- a line for each row of three numbers
unfoldable pub lines_text : List ℕ → List ℕ
lines_text [] = []
lines_text (a ∷ []) = []
lines_text (a ∷ b ∷ []) = []
lines_text (a ∷ b ∷ c ∷ vs) = row_line a b c ++ lines_text vs

-- `short K`, and K lines
unfoldable pub short_text : List ℕ → List ℕ
short_text vs = short_line (length vs / 3) ++ lines_text vs

-- `clear` where there is no number, else `id D R column`, and after the column the standard that was asked for
abbrev pub reason_text : ℕ → List ℕ → List ℕ
reason_text standard [] = clear_line
reason_text standard (a ∷ vs) = numbers_line ((a ∷ vs) ++ (standard ∷ []))

-- an image is its own text
abbrev pub image_text : List ℕ → List ℕ
image_text vs = vs

-- the text of all that is granted; of a refusal, its one line
abbrev pub printed : (List ℕ → List ℕ) → Outcome → List ℕ
printed text (grant vs) = text vs
printed text (deny f) = refused_line (refusal f)

-- D, on a line; or the line of the refusal
abbrev pub distance_text : Answer → List ℕ
distance_text (Ok d) = ended d
distance_text (Err f) = refused_line (refusal f)
