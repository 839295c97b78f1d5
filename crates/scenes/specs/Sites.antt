-- Sites in range.
use Rattle.std.specs.Prelude.{◌+◌, ◌%◌, ◌^◌, ◌≤◌}
use Rattle.scenes.specs.declared.words.Site.{Site}

-- a site whose two words, in two's complement, lie within the latitudes and the longitudes
abbrev pub IsInRange : Site → Type 0
IsInRange s = ((s.lat + 270000) % 2 ^ 32 ≤ 540000) × ((s.lon + 648000) % 2 ^ 32 ≤ 1296000)
