-- What is written into an image.
use Rattle.std.specs.Prelude.{ℕ, ◌+◌, ◌-◌, ◌/◌, ◌%◌, min, List, [], ◌∷◌, ◌++◌, length, take, drop}

-- a table with n bytes written from a place on, as many as there is room for
abbrev pub put_at : ℕ → List ℕ → ℕ → List ℕ → List ℕ
put_at n table at bytes =
    let room : ℕ = min n (length table - at) in
    take at table ++ take room bytes ++ drop (at + room) table

-- the two bytes of the lowest 16 bits
abbrev pub two_bytes : ℕ → List ℕ
two_bytes x = (x / 256 % 256) ∷ (x % 256) ∷ []

-- the eight bytes of a header: FMS, the version, a byte, and the count
abbrev pub header : ℕ → ℕ → ℕ → List ℕ
header version sixth count = 70 ∷ 77 ∷ 83 ∷ [] ++ two_bytes version ++ (sixth % 256) ∷ [] ++ two_bytes count
