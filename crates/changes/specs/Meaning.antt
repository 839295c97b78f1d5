-- Add, Withdraw and Move: what a granted change leaves. Assumes nothing.
use Rattle.std.specs.Prelude.{◌≡◌, List, ℕ, ◌<◌, Ok}
use Rattle.stations.specs.Image.{station_at, bytes_at, count, stations, Accepted}
use Rattle.stations.specs.Encode.{encode}
use Rattle.stations.specs.declared.Station.{Station}
use Rattle.changes.specs.Changes.{Change, add, withdraw, move, decide}

-- the id that a change names
abbrev pub named : Change → ℕ
named (add w) = w.id
named (withdraw id) = id
named (move id channel) = id

-- every record of the image s with another id stands in the image t too, byte for byte
abbrev pub Keeps : ℕ → List ℕ → List ℕ → Type 0
Keeps id s t = (i : ℕ) → i < count s → ((station_at s i).id ≡ id → ⊥) → (j : ℕ) × (j < count t) × (bytes_at t j ≡ bytes_at s i)

-- the bytes t that a granted change c of the table s leaves
pub record Leaves (s : List ℕ) (c : Change) (t : List ℕ) : Type 0 where
  -- they are the image of the granted list
  pub list : List Station
  pub granted : decide (stations s) c ≡ Ok list
  pub image : t ≡ encode list
  -- the image is accepted, and has that list
  pub accepted : Accepted t
  pub has : stations t ≡ list
  -- every other record stays, and no other comes in
  pub stay : Keeps (named c) s t
  pub only : Keeps (named c) t s
