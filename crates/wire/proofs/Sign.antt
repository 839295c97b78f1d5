-- Signed numbers of 32 bits and their bits: the two sides of 0, and their four bytes, both ways.
-- Assumes nothing.
use mathlib.Core.Path.{◌≡◌, refl, ap}
use mathlib.Core.Bool.{true, false}
use mathlib.Core.List.{List, ◌++◌}
use Prim.Native.Nat.{ℕ, suc, ◌+◌, ◌-◌, ◌^◌, ◌≤◌, ◌<◌}
use native.Mathlib.Omega.{arith}
use lib.IntN.{ℤ, pos, negsuc, ◌-ℤ◌, nat_abs}
use lib.Signed.{le_z, non_neg, mag}
use lib.Dec.{T}
use lib.ListN.{length, take, drop}
use mir.Syntax.{w32}
use mir.Val.{Fits, SFits, to_z, of_z}
use mir.ValLaws.{to_z-of_z, of_z-to_z, of_z_fits}
use borrow.Author.Tests.{le-ltb, leb-false}
use Rattle.wire.specs.Be.{Bytes, be, bytes}
use Rattle.wire.proofs.Width.{be-bytes, bytes-be, be_lt}

-- a number from 0 up is its own bits
pub up : (z : ℤ) → SFits w32 z → le_z (pos 0) z ≡ true → T (non_neg z) × Fits w32 (nat_abs z) × (nat_abs z ≡ of_z w32 z)
up (pos n) f e = let h : n < 2 ^ 31 = f.sfits in (tt, record { fits = omega arith }, refl)
up (negsuc n) f e = let z : ◌≡◌ {A = ℕ} 0 1 = cc in absurd (omega arith)

-- one below 0 is -1 - m, and its bits are 2 ^ 32 - 1 less m
pub down : (z : ℤ) → SFits w32 z → le_z (pos 0) z ≡ false → (mag z < 2 ^ 31) × (negsuc 0 -ℤ z ≡ pos (mag z)) × (4294967295 - mag z ≡ of_z w32 z)
down (pos n) f e = absurd (omega (arith, leb-false 0 n e))
down (negsuc n) f e =
    let h : n < 2 ^ 31 = f.sfits in
    (h, rw (le-ltb (suc n) 1 (omega arith)) (ap pos (omega arith)), omega arith)

-- the bytes of a signed number, read back
pub signed-bytes : (z : ℤ) (p q : List ℕ) → SFits w32 z → to_z w32 (be 4 (p ++ (bytes 4 (of_z w32 z) ++ q)) (length p)) ≡ z
signed-bytes z p q f = rw (be-bytes 4 (of_z w32 z) p q (omega (arith, of_z_fits w32 z f))) (to_z-of_z w32 z f)

-- a signed number that was read, as bytes again
pub bytes_signed : (s : List ℕ) (at : ℕ) → Bytes s → at + 4 ≤ length s → bytes 4 (of_z w32 (to_z w32 (be 4 s at))) ≡ take 4 (drop at s)
bytes_signed s at b h = rw (of_z-to_z w32 (be 4 s at) (record { fits = omega (arith, be_lt 4 s at b) })) (bytes-be 4 s at b h)
