-- The answers of the cases, as they are packed.
use Rattle.std.specs.Prelude.{ℕ, ◌+◌, ◌*◌, ◌^◌, List, [], ◌∷◌}
use Rattle.cases.specs.declared.given.Answer.{Answer}
use Rattle.cases.specs.declared.given.Answer.TheVariants.{Number, Refused, Rows, Station}

-- a refusal's number above its extra number; 0 above what is granted
abbrev pub packed : ℕ → ℕ → ℕ
packed number extra = number * 2 ^ 32 + extra

-- an answer with all the room for rows
abbrev pub with_room : Answer → ℕ
with_room (Number n) = n
with_room (Refused n extra) = packed n extra
with_room (Rows count told) = count
with_room (Station place told) = place

-- the same with one place for rows
abbrev pub in_one_place : Answer → ℕ
in_one_place (Number n) = n
in_one_place (Refused n extra) = packed n extra
in_one_place (Rows count told) = packed 22 count
in_one_place (Station place told) = place

-- four places in which nothing is told
abbrev pub untold : List ℕ
untold = 4294967295 ∷ 4294967295 ∷ 4294967295 ∷ 4294967295 ∷ []

-- the first four numbers behind an answer
abbrev pub told : Answer → List ℕ
told (Number n) = untold
told (Refused n extra) = untold
told (Rows count numbers) = numbers
told (Station place numbers) = numbers
