-- Bytes that are more than any table has: what is wrong with them stands in the first 8. Assumes nothing.
use Rattle.std.specs.Prelude.{Ok, Err}
use mathlib.Core.Path.{◌≡◌, refl, sym, ◌∙◌}
use mathlib.Core.Bool.{Bool, true, false, not}
use mathlib.Core.List.{List}
use Prim.Native.Nat.{ℕ, ◌+◌, ◌*◌, ◌<◌}
use native.Mathlib.Omega.{arith}
use lib.Dec.{eqb}
use lib.ListN.{length}
use borrow.Author.Tests.{le-ltb, ne_eqb}
use Rattle.ground.specs.Guard.{given}
use Rattle.refusals.specs.Faults.{Verdict}
use Rattle.refusals.specs.declared.Fault.{Fault}
use Rattle.refusals.specs.declared.Fault.TheVariants.{CountOutside, LengthWrong}
use Rattle.wire.proofs.Alike.{Alike, be_alike}
use Rattle.versions.specs.Version.{carries, limit}
use Rattle.versions.proofs.Versions.{few}
use Rattle.stations.specs.Image.{version, count, faulty, numbers, headed, stages, judged}
use Rattle.stations.proofs.Whole.{whole_headed}

-- longer than any table
abbrev pub Long : List ℕ → Type 0
Long s = 8 + 16 * limit < length s

-- the length is wrong, whatever it is
wrong : (v n k l : ℕ) → 8 + 16 * limit < k → 8 + 16 * limit < l → (b : Bool) → carries v n ≡ b
    → given (not b) (faulty CountOutside) (given (not (eqb k (8 + 16 * n))) (faulty LengthWrong) (Ok tt)) ≡ given (not b) (faulty CountOutside) (given (not (eqb l (8 + 16 * n))) (faulty LengthWrong) (Ok tt))
unfolding given
wrong v n k l hk hl false e = refl
wrong v n k l hk hl true e =
    rw (ne_eqb k (8 + 16 * n) (λ q. omega (arith, few v n e)), ne_eqb l (8 + 16 * n) (λ q. omega (arith, few v n e)))

same_head : (s t : List ℕ) → Alike 8 s t → Long s → Long t → headed s ≡ headed t
unfolding headed numbers given
same_head s t a hs ht =
    rw (le-ltb (length s) 8 (omega arith), le-ltb (length t) 8 (omega arith), a.at 0 (omega arith), a.at 1 (omega arith), a.at 2 (omega arith), a.at 5 (omega arith), be_alike a 2 3 (omega arith), be_alike a 2 6 (omega arith), wrong (version t) (count t) (length s) (length t) hs ht (carries (version t) (count t)) refl)

-- two that begin alike are refused alike
pub refused_alike : (s t : List ℕ) → Alike 8 s t → Long s → Long t → (f : Fault) × (judged s ≡ Err f) × (judged t ≡ Err f)
unfolding judged stages
refused_alike s t a hs ht = go (headed s) refl
  where
    go : (v : Verdict) → headed s ≡ v → (f : Fault) × (judged s ≡ Err f) × (judged t ≡ Err f)
    go (Ok tt) e = let w = whole_headed s e in absurd (omega (arith, w.long, w.few))
    go (Err f) e = (f, rw e refl, rw (sym (same_head s t a hs ht) ∙ e) refl)
