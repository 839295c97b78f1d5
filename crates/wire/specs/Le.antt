-- Numbers of k bytes, the lowest byte first. No number of an image is written so; bytes that are only compared are read so.
-- Assumes nothing.
use Rattle.std.specs.Prelude.{List, ℕ, zero, suc, ◌+◌, ◌*◌, get_or}

unfoldable pub le : ℕ → List ℕ → ℕ → ℕ
le zero s at = 0
le (suc k) s at = le k s (at + 1) * 256 + get_or s at 0
