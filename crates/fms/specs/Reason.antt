-- 02, R-2: the reason for C, C++ and Rust. Assumes nothing.
use Rattle.refusals.specs.Faults.{Answer}
use Rattle.std.specs.Prelude.{◌≡◌, List, [], ◌∷◌, ℕ, Ok, Err}
use Rattle.std.proofs.lemmas.List.Edits.{sets}
use Rattle.desk.specs.Answers.{Outcome, grant, deny}
use Rattle.reasons.specs.Reason.{begins_at}
use Rattle.fms.specs.Packed.{Says}

-- with "clear" the value is 0; with a station that is named, the byte place where its record begins in the table
abbrev pub located : List ℕ → Outcome → Answer
located s (grant []) = Ok 0
located s (grant (id ∷ vs)) = Ok (begins_at s id)
located s (deny f) = Err f

-- the numbers that are granted: none with "clear" and with a refusal
abbrev pub granted : Outcome → List ℕ
granted (grant vs) = vs
granted (deny f) = []

-- the promise: the answer in one number, and the numbers written from the start of the four places
pub record Explained (s : List ℕ) (o : Outcome) (entry exit : List ℕ) (r : ℕ) : Type 0 where
  pub said : Says (located s o) r
  pub held : exit ≡ sets entry 0 (granted o)
