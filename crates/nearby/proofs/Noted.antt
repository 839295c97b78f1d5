-- What was noted: positions of the table, those of the stations that are studied and short, in order. Assumes nothing.
use mathlib.Core.Path.{◌≡◌, refl, sym, ap, ◌∙◌}
use mathlib.Core.Bool.{Bool}
use mathlib.Core.List.Memᴰ
use mathlib.Core.List.{List, [], ◌∷◌, map}
use Prim.Native.Nat.{ℕ, zero, suc, ◌≤◌, ◌<◌}
use native.Mathlib.Nat.{le_of_suc-le-suc, not-suc-le-zero}
use native.Mathlib.Omega.{arith}
use lib.ListN.{length, get_or}
use Rattle.ground.specs.Lists.{◌∈◌, span, keep}
use Rattle.ground.proofs.Order.{in_keep, in_span}
use Rattle.ground.proofs.Spans.{length-span}
use Rattle.ground.proofs.Keeps.{map-map, length-keep}
use Rattle.spacing.specs.Pair.{Assignment}
use Rattle.stations.specs.Image.{station_at, stations, count, Accepted}
use Rattle.stations.specs.declared.Station.{Station}
use Rattle.survey.specs.Ways.{near, looked, studied, chosen_for}
use Rattle.survey.specs.Walking.{blocks}
use Rattle.survey.specs.declared.Terms.{Terms}
use Rattle.survey.proofs.Studied.{keep_at}
use Rattle.nearby.specs.Positions.{short_positions}

-- what is said of each short station of a list, by the positions of these
pub said_at : {A : Type 0} (g : Station → A) (km : ℕ → ℕ → ℕ → ℕ) (look : Station → Bool) (s : List ℕ) (p : Assignment) → Accepted s → map g (keep (near km p) (keep look (stations s))) ≡ map (λ j. g (station_at s j)) (short_positions km look s p)
unfolding short_positions blocks
said_at g km look s p e = ap (map g) (keep_at s (count s) e look (near km p)) ∙ map-map (station_at s) g (short_positions km look s p)

-- what stands at a place of a list is one of it
at_in : (l : List ℕ) (t : ℕ) → t < length l → get_or l t 0 ∈ l
at_in [] t h = absurd (not-suc-le-zero h)
at_in (x ∷ l) zero h = Memᴰ.head refl
at_in (x ∷ l) (suc t) h = Memᴰ.tail (at_in l t (le_of_suc-le-suc h))

module _ (km : ℕ → ℕ → ℕ → ℕ) (look : Station → Bool) (s : List ℕ) (p : Assignment) where
  -- each is a position of the table
  pub noted_at : (i : ℕ) → i < length (short_positions km look s p) → get_or (short_positions km look s p) i 0 < count s
  unfolding short_positions
  noted_at i h =
      let m = ((in_keep _ (span 0 (count s))).0 (at_in (short_positions km look s p) i h)).0 in
      omega (arith, ((in_span _ (count s) 0).0 m).1)

  -- there are no more of them than records
  pub noted_few : length (short_positions km look s p) ≤ count s
  unfolding short_positions
  noted_few = omega (arith, length-keep (blocks km look s p) (span 0 (count s)), length-span (count s) 0)

-- what is said of the noted ones is said of the short stations, of those that are studied
pub said_noted : (s : List ℕ) → Accepted s → (t : Terms) (p : Assignment) {A : Type 0} (g : Station → A) → map (λ j. g (station_at s j)) (short_positions (chosen_for t) (looked t) s p) ≡ map g (keep (near (chosen_for t) p) (studied t (stations s)))
unfolding studied
said_noted s e t p g = sym (said_at g (chosen_for t) (looked t) s p e)
