-- The rows of the noted positions, as numbers. Assumes nothing.
use mathlib.Core.Path.{◌≡◌, refl, sym, ap, ◌∙◌}
use mathlib.Core.List.{List, [], ◌∷◌, ◌++◌, map}
use Prim.Native.Nat.{ℕ, ◌+◌, ◌*◌, ◌<◌}
use native.Mathlib.Omega.{arith}
use lib.ListN.{length, get_or, take, length-append, length-map}
use lib.Seq.{sets}
use Rattle.std.specs.List.{All}
use Rattle.std.proofs.lemmas.List.{map_more}
use Rattle.std.proofs.lemmas.List.Elements.{All-from_get_or}
use Rattle.ground.specs.Lists.{keep}
use Rattle.ground.specs.Rows.{Row, flat}
use Rattle.ground.specs.Writing.{Wrote}
use Rattle.ground.proofs.Writes.{sets_append, flat_append, wrote_as}
use Rattle.spacing.specs.Pair.{Assignment}
use Rattle.stations.specs.Image.{station_at, stations, count, Accepted}
use Rattle.stations.specs.declared.Station.{Station}
use Rattle.survey.specs.Ways.{near, looked, studied, chosen_for}
use Rattle.survey.specs.declared.Terms.{Terms}
use Rattle.nearby.specs.Positions.{short_positions}
use Rattle.nearby.proofs.Noted.{noted_at, said_noted}
use Rattle.checks.specs.Check.{row_of, short_rows}
use Rattle.checks.specs.Positions.{rows_at}

pub length-flat : (rs : List Row) → length (flat rs) ≡ 3 * length rs
unfolding flat
length-flat [] = refl
length-flat (r ∷ rs) = omega (arith, length-flat rs)

-- three numbers for each
pub length_rows : (g : ℕ → Row) (vs : List ℕ) → length (flat (map g vs)) ≡ 3 * length vs
length_rows g vs = omega (arith, length-flat (map g vs), length-map vs g)

-- one run of writes after another
wrote_on : {u v entry rows exit : List ℕ} {at next end : ℕ} → Wrote u entry at rows next → Wrote v rows next exit end → Wrote (u ++ v) entry at exit end
wrote_on {u} {v} {entry} {rows} {at = at} a b =
    record {
      next = omega (arith, a.next, b.next, length-append u v);
      stored = b.stored ∙ ap (λ (k : ℕ). sets rows k v) a.next ∙ ap (λ (l : List ℕ). sets l (at + length u) v) a.stored ∙ sym (sets_append u v entry at);
    }

-- the rows of the first t, and one more
pub rows_more : (g : ℕ → Row) (vs : List ℕ) (t : ℕ) {entry rows exit : List ℕ} {start at next : ℕ} → t < length vs → Wrote (flat (map g (take t vs))) entry start rows at → Wrote (flat (g (get_or vs t 0) ∷ [])) rows at exit next → Wrote (flat (map g (take (t + 1) vs))) entry start exit next
rows_more g vs t h a b = wrote_as (sym (ap flat (map_more g vs t 0 h) ∙ flat_append (map g (take t vs)) (g (get_or vs t 0) ∷ []))) (wrote_on a b)

-- ---- where the short stations of those that are studied are noted

module _ (s : List ℕ) (t : Terms) (p : Assignment) {vs : List ℕ} (noted : vs ≡ short_positions (chosen_for t) (looked t) s p) where
  -- each is a position of the table
  pub noted_within : All (λ i. i < count s) vs
  noted_within = rw noted (All-from_get_or (λ i. i < count s) _ 0 (noted_at (chosen_for t) (looked t) s p))

  -- what is said of them is said of the short stations
  pub noted_said : {A : Type 0} (g : Station → A) → Accepted s → map (λ j. g (station_at s j)) vs ≡ map g (keep (near (chosen_for t) p) (studied t (stations s)))
  noted_said g e = rw noted (said_noted s e t p g)

  -- so are their rows
  pub rows_noted : Accepted s → rows_at (chosen_for t) s p vs ≡ short_rows (chosen_for t) p (studied t (stations s))
  unfolding short_rows
  rows_noted e = noted_said (row_of (chosen_for t) p) e
