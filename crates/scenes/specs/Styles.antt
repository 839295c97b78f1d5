-- The styles of made tables.
use Rattle.std.specs.Prelude.{ℕ}
use Rattle.scenes.specs.declared.styles.Style.{Style}
use Rattle.scenes.specs.declared.styles.Style.TheVariants.{AtLimits, Scattered, Low, Equals, Crowded, Astride, Repeating}

-- a style of its own, and not any of several
abbrev pub IsPlain : Style → Type 0
IsPlain AtLimits = Unit {0}
IsPlain Scattered = Unit {0}
IsPlain Low = Unit {0}
IsPlain Equals = Unit {0}
IsPlain Crowded = Unit {0}
IsPlain Astride = ⊥
IsPlain Repeating = ⊥

-- the number of a style, in the order of the styles
abbrev pub style_number : Style → ℕ
style_number AtLimits = 0
style_number Scattered = 1
style_number Low = 2
style_number Equals = 3
style_number Crowded = 4
style_number Astride = 5
style_number Repeating = 6
