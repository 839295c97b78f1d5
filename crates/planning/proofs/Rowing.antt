-- The row of one new channel: filled flag by flag, and set among the rows of a range. Assumes nothing.
use mathlib.Core.Path.{◌≡◌, refl, ◌∙◌}
use mathlib.Core.Bool.{Bool, false}
use mathlib.Core.List.{List, []}
use Prim.Native.Nat.{ℕ, ◌+◌, ◌-◌, ◌≤◌, ◌<◌}
use native.Mathlib.Omega.{arith}
use native.Mathlib.Decide.{ℕ_discrete}
use lib.ListN.{length, set, length-set}
use lib.Seq.{get_or-set_same, get_or-set_other}
use Rattle.part73.specs.Channels.{lowest, highest, channel_count}
use Rattle.planning.specs.Flags.{flag_of, row_of}

-- ---- filled

-- the flags before m are
pub record Rowing (f : ℕ → Bool) (row : List Bool) (m : ℕ) : Type 0 where
  pub long : length row ≡ channel_count
  pub at : (x : ℕ) → lowest ≤ x → x < m → flag_of row x ≡ f x

pub row_turn : {f : ℕ → Bool} {row : List Bool} {m : ℕ} {v : Bool} → Rowing f row m → lowest ≤ m → m ≤ highest → v ≡ f m → Rowing f (set row (m - lowest) v) (m + 1)
row_turn {f} {row} {m} {v} r low high e = record { long = length-set row (m - lowest) v ∙ r.long; at = λ x lo hi. go x lo hi (ℕ_discrete x m) }
  where
    go : (x : ℕ) → lowest ≤ x → x < m + 1 → Dec (x ≡ m) → flag_of (set row (m - lowest) v) x ≡ f x
    go x lo hi (yes p) = rw p (get_or-set_same row (m - lowest) v false (omega (arith, r.long)) ∙ e)
    go x lo hi (no np) = get_or-set_other row (m - lowest) (x - lowest) v false (λ p. np (omega arith)) ∙ r.at x lo (omega arith)

-- ---- set

-- the row of the new channel c is another, and those of the others are as they were
pub record Turned (first c : ℕ) (row : List Bool) (entry exit : List (List Bool)) : Type 0 where
  pub long : length exit ≡ length entry
  pub here : row_of first exit c ≡ row
  pub other : (x : ℕ) → first ≤ x → (x ≡ c → ⊥) → row_of first exit x ≡ row_of first entry x

pub unturned : {first c : ℕ} (moves : List (List Bool)) → Turned first c (row_of first moves c) moves moves
unturned moves = record { long = refl; here = refl; other = λ x lo ne. refl }

pub turned : {first c : ℕ} (row : List Bool) (moves : List (List Bool)) → first ≤ c → c - first < length moves → Turned first c row moves (set moves (c - first) row)
turned {first} {c} row moves low within =
    record {
      long = length-set moves (c - first) row;
      here = get_or-set_same moves (c - first) row [] within;
      other = λ x lo ne. get_or-set_other moves (c - first) (x - first) row [] (λ q. ne (omega arith));
    }
