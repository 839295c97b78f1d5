-- What comes from the system call that reads, and what is handed to the one that writes. No contract of the kit says which bytes
-- a call read or wrote, so these are words that only `read` and `hand` of `streams` give out: they alone make the calls, and
-- no other crate can open the words. Assumes nothing.
use Rattle.std.specs.Prelude.{◌≡◌, List, ℕ, ◌+◌, ◌%◌, ◌^◌, length}

-- these bytes came in, until the buffer was full or the input ended
unfoldable pub Came : List ℕ → Type 0
Came input = Unit {0}

-- between two marks these bytes and no others were handed over, in this order; a mark counts them
unfoldable pub Handed : ℕ → List ℕ → ℕ → Type 0
Handed before text after = after % 2 ^ 64 ≡ (before + length text) % 2 ^ 64

-- a call did not take all that it was handed
unfoldable pub Failed : Type 0
Failed = Unit {0}
