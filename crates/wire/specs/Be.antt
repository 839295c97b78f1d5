-- 01, The table image: numbers of k bytes, big-endian.
-- Assumes nothing.
use Rattle.std.specs.Prelude.{List, [], ◌∷◌, ◌++◌, ℕ, zero, suc, ◌+◌, ◌*◌, ◌/◌, ◌%◌, ◌<◌, get_or}
use Rattle.std.proofs.lemmas.List.Edits.{sets}

-- each element is a byte
abbrev pub Bytes : List ℕ → Type 0
Bytes s = (i : ℕ) → get_or s i 0 < 256

-- the number in the k bytes of s from `at`
unfoldable pub be : ℕ → List ℕ → ℕ → ℕ
be zero s at = 0
be (suc k) s at = be k s at * 256 + get_or s (at + k) 0

-- the k bytes of v
unfoldable pub bytes : ℕ → ℕ → List ℕ
bytes zero v = []
bytes (suc k) v = bytes k (v / 256) ++ (v % 256 ∷ [])

-- s with the k bytes of v stored from `at` on
unfoldable pub put : ℕ → List ℕ → ℕ → ℕ → List ℕ
put k s at v = sets s at (bytes k v)
