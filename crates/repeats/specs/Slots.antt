-- Inside: the slots in which positions are kept, so that one that repeats an earlier one is found on its way. A position is kept
-- in the first empty slot of the way of its number: the way begins at one of 4,096 slots and goes on, from the position that is in
-- a slot, to one of two slots that are that position's own, by the bits of the number from the lowest on. Twice a position stands for
-- it, which is also where its own slots begin. Assumes nothing.
use Rattle.std.specs.Prelude.{◌≡◌, ◌⊎◌, Bool, true, false, List, ℕ, zero, suc, ◌+◌, ◌*◌, ◌/◌, ◌%◌, ◌≤◌, ◌<◌, length, get_or}
use Rattle.versions.specs.Version.{limit}

-- ---- ways

abbrev pub slots : ℕ
slots = 4096 + 2 * limit

-- where the way of a number begins
unfoldable pub begin : ℕ → ℕ
begin x = x / 1048576 % 4096

-- where one goes on from twice a position, by what is left of its number
unfoldable pub onward : ℕ → ℕ → ℕ
onward v w = 4096 + v + w % 2

-- what is left of a number after m steps
unfoldable pub left_of : ℕ → ℕ → ℕ
left_of x zero = x
left_of x (suc m) = left_of x m / 2

-- the slot of its way after m steps
unfoldable pub slot_of : List ℕ → ℕ → ℕ → ℕ
slot_of t x zero = begin x
slot_of t x (suc m) = onward (get_or t (slot_of t x m) 0) (left_of x m)

-- ---- what the slots hold: twice a position, or twice the limit where there is none

-- twice a position is in a slot
abbrev pub At : List ℕ → ℕ → Type 0
At t c = (k : ℕ) × (k < limit) × (get_or t c 0 ≡ 2 * k)

-- the slots before the m-th of a way are taken
pub record Taken (t : List ℕ) (x m : ℕ) : Type 0 where
  pub each_one : (l : ℕ) → l < m → At t (slot_of t x l)

-- a position stands on the way of a number
pub record Stands (t : List ℕ) (x j : ℕ) : Type 0 where
  pub steps : ℕ
  pub taken : Taken t x steps
  pub here : get_or t (slot_of t x steps) 0 ≡ 2 * j

-- the positions before i are kept, each on the way of its number
pub record Kept (number : ℕ → ℕ) (t : List ℕ) (i : ℕ) : Type 0 where
  pub size : length t ≡ slots
  -- in a slot is one of them, or none
  pub who : (c : ℕ) → c < slots → ((j : ℕ) × (j < i) × (get_or t c 0 ≡ 2 * j)) ⊎ (get_or t c 0 ≡ 2 * limit)
  -- in one of a position's own slots is a later one, or none
  pub later : (k w : ℕ) → k < limit → 2 * k < get_or t (onward (2 * k) w) 0
  pub stands : (j : ℕ) → j < i → Stands t (number j) j

-- ---- what is looked for

-- the position i is the same as none before it, and r is the first empty slot of its way
pub record Alone (same : ℕ → ℕ → Bool) (x : ℕ) (t : List ℕ) (i r : ℕ) : Type 0 where
  pub other : (j : ℕ) → j < i → same i j ≡ false
  pub steps : ℕ
  pub taken : Taken t x steps
  pub is : slot_of t x steps ≡ r
  pub empty : get_or t r 0 ≡ 2 * limit

-- r is that slot, or past the slots where an earlier position is the same
pub record Sought (same : ℕ → ℕ → Bool) (x : ℕ) (t : List ℕ) (i r : ℕ) : Type 0 where
  pub upto : r ≤ slots
  pub met : r ≡ slots → (j : ℕ) × (j < i) × (same i j ≡ true)
  pub alone : r < slots → Alone same x t i r
