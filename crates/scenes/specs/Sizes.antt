-- The largest sizes of what is made.
use Rattle.std.specs.Prelude.{ℕ, ◌+◌, ◌*◌, if◌then◌else◌, nat_lt}

-- no made table has more records
abbrev pub most_records : ℕ
most_records = 4002

-- nor more bytes
abbrev pub longest : ℕ
longest = 8 + 16 * most_records

-- nor more once it is damaged
abbrev pub room : ℕ
room = longest + 33

-- the version of a table of n records
abbrev pub version_of : ℕ → ℕ
version_of n = if nat_lt 2000 n then 2 else 1
