-- The numbers of one new channel, by its mark. Assumes nothing.
use mathlib.Core.Path.{◌≡◌, ap, ◌∙◌}
use mathlib.Core.Bool.{Bool}
use mathlib.Core.List.{List, [], ◌∷◌}
use Prim.Native.Nat.{ℕ, suc, ◌-◌, ◌*◌, ◌≤◌, ◌<◌}
use native.Mathlib.Omega.{arith}
use lib.ListN.{length}
use borrow.Author.Tests.{eq-eqb, ne_eqb}
use Rattle.part73.specs.Channels.{lowest, channel_count, new_channels}
use Rattle.marking.specs.Marks.{many}
use Rattle.planning.specs.Flags.{flag_of}
use Rattle.listing.specs.Listing.{move_at, move_rows, mark_rows}
use Rattle.ground.proofs.Spans.{length-span, each-length, cond_length}

module _ (id : ℕ → ℕ) (row : List Bool) (c v : ℕ) where
  pub rows_free : v ≡ 0 → c ∷ 0 ∷ 0 ∷ [] ≡ mark_rows id row c v
  unfolding mark_rows
  rows_free e = rw (eq-eqb v 0 e)

  pub rows_many : v ≡ many → [] ≡ mark_rows id row c v
  unfolding mark_rows
  rows_many e = rw (ne_eqb v 0 (λ q. omega arith), eq-eqb v many e)

  pub rows_lone : (v ≡ 0 → ⊥) → (v ≡ many → ⊥) → move_rows row (id (v - 1)) c ≡ mark_rows id row c v
  unfolding mark_rows
  rows_lone n m = rw (ne_eqb v 0 n, ne_eqb v many m)

  -- by the position of the one that stands in the way
  pub rows_lone_at : (i : ℕ) → v ≡ suc i → v < many → move_rows row (id i) c ≡ mark_rows id row c v
  rows_lone_at i e l =
      let f : i ≡ v - 1 = omega (arith, e) in
      ap (λ (k : ℕ). move_rows row (id k) c) f ∙ rows_lone (λ q. omega arith) (λ q. omega arith)

-- the moves of one station are at most 80 rows
pub moves_bound : (row : List Bool) (id c : ℕ) → length (move_rows row id c) ≤ 3 * channel_count
moves_bound row id c =
    let h : length (move_rows row id c) ≤ 3 * length new_channels = each-length (move_at row id c) 3 new_channels (λ m. cond_length (flag_of row m) (c ∷ id ∷ m ∷ [])) in
    omega (arith, length-span channel_count lowest)
