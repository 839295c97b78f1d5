-- Arrange: the naive enumeration is what the marks of the new channels and the flags of the moves say. Assumes nothing.
use mathlib.Core.Path.{◌≡◌, refl, sym, ap, ◌∙◌}
use mathlib.Core.Bool.{Bool, true≢false}
use mathlib.Core.List.{List, [], ◌∷◌}
use Prim.Native.Nat.{ℕ, suc, ◌+◌, ◌-◌, ◌<◌}
use native.Mathlib.Omega.{arith}
use Rattle.ground.specs.Lists.{span}
use Rattle.ground.specs.Rows.{row, flat}
use Rattle.ground.proofs.Spans.{each_cong}
use Rattle.ground.proofs.Tests.{fails_where}
use Rattle.ground.proofs.Writes.{flat_keep, flat-each}
use Rattle.part73.specs.Channels.{lowest, channel_count, new_channels}
use Rattle.spacing.specs.Pair.{sited}
use Rattle.spacing.specs.declared.Place.{Place}
use Rattle.stations.specs.Image.{stations, count, Accepted}
use Rattle.survey.specs.Ways.{looked, studied, chosen_for}
use Rattle.survey.specs.Walking.{blocks}
use Rattle.marking.specs.Marks.{many, seen, Marked}
use Rattle.marking.specs.declared.Channels.{Channels}
use Rattle.survey.specs.declared.Terms.{Terms}
use Rattle.survey.proofs.Records.{few}
use Rattle.planning.specs.Scene.{Scene, scene, scene_of, allowed}
use Rattle.planning.specs.Flags.{row_of, Rowed, Right, Planned}
use Rattle.planning.proofs.Single.{First}
use Rattle.planning.proofs.Tallies.{Tally, nobody, lone, several, tally}
use Rattle.listing.specs.Listing.{id_at, move_rows, mark_rows, all_rows}
use Rattle.listing.proofs.Marking.{rows_free, rows_many, rows_lone_at}
use Rattle.arrangements.specs.Placed.{moves_of, moves, arranged, arrangements}
use Rattle.arrangements.specs.Arrange.{rows_for}
use Rattle.arrangements.proofs.Movers.{Clear, clear_is, no_moves, moves_of_lem}
use Rattle.arrangements.proofs.Positions.{arrangements_at}

-- ---- one new channel

module _ (t : Scene) (c : ℕ) where
  -- none is in the way
  free-numbers : First (t.new c) 0 t.size t.size → c ∷ 0 ∷ 0 ∷ [] ≡ flat (arranged t c)
  unfolding flat arranged
  free-numbers f = rw ((clear_is t c).1 (λ j h. f.passed j (omega arith) h))

  module _ (a : ℕ) (first : First (t.new c) 0 t.size a) (within : a < t.size) where
    blocked : Clear t c → ⊥
    blocked f = true≢false (sym (first.hit within) ∙ f a within)

    -- what is blocked has the moves
    arranged-moves : arranged t c ≡ moves t c
    unfolding arranged
    arranged-moves = rw (fails_where (clear_is t c) blocked)

    -- two are
    two-numbers : (b : ℕ) → First (t.new c) (a + 1) t.size b → b < t.size → [] ≡ flat (arranged t c)
    unfolding flat
    two-numbers b second inside =
        sym (ap flat (arranged-moves ∙ no_moves t c a b (omega (arith, second.low)) inside (first.hit within) (second.hit inside) blocked))

    -- the numbers, from the flags of its moves
    move-numbers : (flags : List Bool) → Rowed (allowed t c a) flags → move_rows flags (t.id a) c ≡ flat (arranged t c)
    unfolding moves_of
    move-numbers flags right =
        each_cong _ _ channel_count lowest (λ m lo hi. rw (right.at m lo (omega arith)))
        ∙ sym (flat_keep (allowed t c a) (λ m. row c (t.id a) m) new_channels)
        ∙ sym (ap flat (arranged-moves ∙ moves_of_lem t c a within (first.hit within) blocked))

  -- the numbers of a channel
  pub by_mark : (v : ℕ) (flags : List Bool) → t.size < many → Tally (t.new c) t.size v → Right t c v flags → mark_rows t.id flags c v ≡ flat (arranged t c)
  by_mark v flags few (nobody f) right = sym (rows_free t.id flags c 0 refl) ∙ free-numbers f
  by_mark v flags few (lone a l f g) right =
      let e : suc a - 1 ≡ a = omega arith in
      sym (rows_lone_at t.id flags c (suc a) a refl (omega arith))
      ∙ move-numbers a f l flags (rw e at (right (omega arith, omega arith)))
  by_mark v flags few (several a b l f g h) right = sym (rows_many t.id flags c many refl) ∙ two-numbers a f l b g h

-- ---- one channel after the other

pub rows_all : (t : Scene) (marks : List ℕ) (flags : List (List Bool)) (channels : Channels) → t.size < many → Marked t.new channels.first channels.last t.size marks → Planned t channels.first (suc channels.last) flags
    → all_rows t.id marks channels flags ≡ flat (arrangements t channels.first channels.last)
unfolding arrangements
rows_all t marks flags channels few w p =
    let first = channels.first in
    let last = channels.last in
    each_cong _ _ (suc last - first) first (λ x lo hi.
    ap (mark_rows t.id (row_of first flags x) x) (w.at x lo (omega arith))
    ∙ by_mark t x (seen (t.new x) t.size) (row_of first flags x) few (tally (t.new x) t.size) (p.done x lo (omega arith)))
    ∙ sym (flat-each (arranged t) (span first (suc last - first)))

-- ---- the same for the scene of a question

module _ (s : List ℕ) (t : Terms) (p : Place) (channels : Channels) {marks : List ℕ} where
  pub as_new : Marked (λ m j. blocks (chosen_for t) (looked t) s (sited p m) j) channels.first channels.last (count s) marks → Marked (scene_of s t p).new channels.first channels.last (count s) marks
  unfolding scene
  as_new w = w

  rows_placed : {flags : List (List Bool)} → count s < many → Marked (scene_of s t p).new channels.first channels.last (count s) marks → Planned (scene_of s t p) channels.first (suc channels.last) flags
      → all_rows (id_at s) marks channels flags ≡ flat (arrangements (scene_of s t p) channels.first channels.last)
  unfolding scene
  rows_placed {flags} few w q = rows_all (scene_of s t p) marks flags channels few w q

  pub rows_of : {flags : List (List Bool)} → Accepted s → Marked (scene_of s t p).new channels.first channels.last (count s) marks → Planned (scene_of s t p) channels.first (suc channels.last) flags
      → all_rows (id_at s) marks channels flags ≡ rows_for (sited p) channels.first channels.last (chosen_for t) (studied t (stations s))
  unfolding studied
  rows_of e w q = rows_placed (omega (arith, few s e)) w q ∙ sym (ap flat (arrangements_at (chosen_for t) (looked t) s e (sited p) channels.first channels.last))
