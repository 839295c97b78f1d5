-- The largest sizes.
use Rattle.std.specs.Prelude.{ℕ, ◌+◌, ◌*◌}

-- no table holds more stations
abbrev pub capacity : ℕ
capacity = 4000

-- the bytes of its image, and where one more record would start
abbrev pub longest : ℕ
longest = 8 + 16 * capacity
