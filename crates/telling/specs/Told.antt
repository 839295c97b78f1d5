-- Inside: the text of an answer, from what the lent buffer holds, and what the functions that tell it ask. Assumes nothing.
use Rattle.refusals.specs.Faults.{Answer, refusal}
use Rattle.std.specs.Prelude.{Bool, true, false, List, ℕ, ◌≤◌, take, Ok, Err}
use Rattle.lines.specs.Lines.{refused_line}

-- the text of what was granted; of a refusal, its line
abbrev pub told : (List ℕ → List ℕ) → List ℕ → Answer → List ℕ
told text buffer (Ok n) = text (take n buffer)
told text buffer (Err f) = refused_line (refusal f)

-- what was granted lies within the room that was lent
abbrev pub Within : ℕ → Answer → Type 0
Within room (Ok count) = count ≤ room
Within room (Err f) = Unit {0}

abbrev pub is_refused : Answer → Bool
is_refused (Ok count) = false
is_refused (Err f) = true
