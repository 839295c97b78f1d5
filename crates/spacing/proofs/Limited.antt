-- The limits of a class, from its row of the table of squares and its co-channel separations. Assumes nothing.
use mathlib.Core.Path.{◌≡◌, ap, ◌∙◌}
use mathlib.Core.List.{List, []}
use Prim.Native.Nat.{ℕ, ◌<◌}
use lib.Dec.{lit<}
use lib.ListN.{get_or}
use Rattle.distance.specs.Bounds.{LeastScale}
use Rattle.part73.specs.Separations.{Separations}
use Rattle.part73.specs.Reading.{CoChannel}
use Rattle.squares.specs.Squares.{limit_of, squared_limits}
use Rattle.squares.proofs.Rule.{rule}
use Rattle.spacing.specs.Limits.{square_at, north_of, east_of, FromRow, InKm, Cleared, LimitsAt}
use Rattle.spacing.specs.declared.Limits.{Limits}
use Rattle.spacing.specs.declared.Place.{Place}

-- the squares that a table has, whichever
pub row_filled : (squares : List (List (List ℕ))) (class : ℕ) (limits : Limits)
    → ((b : ℕ) → b < 8 → get_or limits.squares b [] ≡ get_or (get_or squares class []) b []) → FromRow squares class limits
row_filled squares class limits row = record { square = λ b c hb hc. ap (λ (r : List ℕ). get_or r c 0) (row b hb) }

-- what the table of squares and the co-channel separations of a class say of its limits
module _ {km : ℕ → ℕ → ℕ → ℕ} (p : Place) (known : p.class < 8) {separations : List ℕ} (w : CoChannel km p.class separations) where
  pub in_km : Separations km → InKm separations
  in_km table =
      record {
        some = λ b h. rw (w.at b h) (table.above p.class b 0 known h (lit< tt));
        most = λ b h. rw (w.at b h) (table.most p.class b 0 known h (lit< tt));
      }

  -- the squares, by the table of separations
  pub squares_filled : {squares : List (List (List ℕ))} {limits : Limits} → squares ≡ squared_limits km → FromRow squares p.class limits
      → (b c : ℕ) → b < 8 → c < 4 → square_at limits b c ≡ limit_of (km p.class b c)
  squares_filled e row b c hb hc = row.square b c hb hc ∙ rw e (rule km p.class b c known hb hc)

  -- the limits, from their squares and seconds one by one, whatever the scale
  pub limits_filled : {squares : List (List (List ℕ))} {scale : ℕ} {limits : Limits} → squares ≡ squared_limits km → LeastScale p.latitude scale
      → FromRow squares p.class limits → Cleared separations 1105648400 limits.north → Cleared separations scale limits.east → LimitsAt km p limits
  unfolding north_of east_of
  limits_filled {scale = scale} e l row north east =
      record {
        square = squares_filled e row;
        north = λ b h. rw (← w.at b h) (north.at b h);
        scale = scale;
        least = l;
        east = λ b h. rw (← w.at b h) (east.at b h);
      }
