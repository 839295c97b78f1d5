-- Flags that are all down. Assumes nothing.
use mathlib.Core.Path.{◌≡◌, refl}
use mathlib.Core.Bool.{false}
use mathlib.Core.List.{[]}
use Prim.Native.Nat.{ℕ, zero, suc, ◌-◌, ◌<◌}
use native.Mathlib.Omega.{arith}
use lib.ListN.{get_or, replicate, length-replicate}
use Rattle.part73.specs.Channels.{channel_count}
use Rattle.marking.specs.declared.Channels.{Channels}
use Rattle.planning.specs.Flags.{Room, Down}

all_down : (n k : ℕ) → get_or (replicate n false) k false ≡ false
all_down zero k = refl
all_down (suc n) zero = refl
all_down (suc n) (suc k) = all_down n k

row_down : (n k l m : ℕ) → get_or (get_or (replicate n (replicate l false)) k []) m false ≡ false
row_down zero k l m = refl
row_down (suc n) zero l m = all_down l m
row_down (suc n) (suc k) l m = row_down n k l m

-- n rows of them are enough for new channels
pub blank : (n : ℕ) (c : Channels) → c.last - c.first < n → Down c.first c.first (replicate n (replicate channel_count false)) × Room c (replicate n (replicate channel_count false))
blank n c h = (record { at = λ x l. record { at = λ m lo hi. row_down n _ channel_count _ } }, omega (arith, length-replicate n (replicate channel_count false)))
