-- 01, What the desk covers: the channels that a new or a moved station may have, 221 to 300. Assumes nothing.
use Rattle.std.specs.Prelude.{List, ℕ}
use Rattle.ground.specs.Lists.{span}

abbrev pub lowest : ℕ
lowest = 221

abbrev pub highest : ℕ
highest = 300

-- how many they are
abbrev pub channel_count : ℕ
channel_count = 80

-- each of them, ascending
abbrev pub new_channels : List ℕ
new_channels = span lowest channel_count
