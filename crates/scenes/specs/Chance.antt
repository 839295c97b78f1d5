-- The made numbers.
use Rattle.std.specs.Prelude.{ℕ, ◌*◌, ◌/◌, ◌%◌, ◌^◌, bit_xor}

-- a number shifted to the left within 64 bits
abbrev pub shifted : ℕ → ℕ → ℕ
shifted x by = x * 2 ^ by % 2 ^ 64

-- one turn of xorshift on 64 bits
unfoldable pub turned : ℕ → ℕ
turned x =
    let a : ℕ = bit_xor x (shifted x 13) in
    let b : ℕ = bit_xor a (a / 2 ^ 7) in
    bit_xor b (shifted b 17)
