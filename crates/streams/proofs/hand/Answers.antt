use Rattle.std.proofs.Common.{◌≡◌, ℕ, ◌+◌, ◌%◌, ◌^◌, List, length}
use native.Mathlib.Nat.{mod-mod}
use Rattle.seal.specs.Seal.{Handed, Failed}
use Rattle.streams.proofs.hand.Goals as goal

counted : (text : List ℕ) (n r : ℕ) → r ≡ (n + length text) % 2 ^ 64 → Handed n text r
unfolding Handed
counted text n r e = rw e (mod-mod (n + length text) (2 ^ 64))

pub returns-then-not-write_all : goal.returns-then-not-write_all
unfolding Failed
returns-then-not-write_all c = record { told = λ ok. absurd cc; failed = λ err. tt }

pub returns : goal.returns
returns c = record { told = λ ok. counted _ _ _ cc; failed = λ err. absurd cc }
