-- What a stage can find: a fault by its name, with a number below a bound. Assumes nothing.
use Rattle.std.specs.Prelude.{Ok}
use mathlib.Core.List.{List, [], ◌∷◌}
use Prim.Native.Nat.{ℕ, ◌+◌, ◌<◌}
use native.Mathlib.Omega.{arith}
use Rattle.ground.proofs.Cases.{either}
use Rattle.refusals.specs.Faults.{Verdict, refusal}
use Rattle.refusals.specs.declared.Fault.{Fault}
use Rattle.refusals.specs.declared.Fault.TheVariants.{UnderEightBytes, MarkDiffers, VersionUnknown, SixthByteSet, CountOutside, LengthWrong, IdNotAscending, ChannelOutside, ClassOver, FlagsOver, LatitudeOutside, LongitudeOutside, Repeated}
use Rattle.versions.specs.Version.{top}
use Rattle.stations.specs.Image.{stations, version, faulty, then, numbers, headed, verdict, scan, scanned, repeat_of, repeated}
use Rattle.stations.specs.declared.Station.{Station}

pub data Found (bound : ℕ) : Verdict → Type 0 where
  sound : Found bound (Ok tt)
  fault : (f : Fault) → (refusal f).number < bound → Found bound (faulty f)

pub found-then : {n : ℕ} {v w : Verdict} → Found n v → Found n w → Found n (then v w)
found-then sound k = k
found-then (fault f l) k = fault f l

module _ (n : ℕ) (above : 12 < n) where
  found-numbers : (s : List ℕ) → Found n (numbers s)
  unfolding numbers
  found-numbers s =
      either (Found n) _ _ _ (λ _. fault VersionUnknown (omega arith))
      (λ _. either (Found n) _ _ _ (λ _. fault SixthByteSet (omega arith))
      (λ _. either (Found n) _ _ _ (λ _. fault CountOutside (omega arith))
      (λ _. either (Found n) _ _ _ (λ _. fault LengthWrong (omega arith)) (λ _. sound))))

  pub found-headed : (s : List ℕ) → Found n (headed s)
  unfolding headed
  found-headed s =
      either (Found n) _ _ _ (λ _. fault UnderEightBytes (omega arith))
      (λ _. either (Found n) _ _ _ (λ _. fault MarkDiffers (omega arith)) (λ _. found-numbers s))

  found-verdict : (t last i : ℕ) (r : Station) → Found n (verdict t last i r)
  unfolding verdict
  found-verdict t last i r =
      either (Found n) _ _ _ (λ _. fault (IdNotAscending i) (omega arith))
      (λ _. either (Found n) _ _ _ (λ _. fault (ChannelOutside i) (omega arith))
      (λ _. either (Found n) _ _ _ (λ _. fault (ClassOver i) (omega arith))
      (λ _. either (Found n) _ _ _ (λ _. fault (FlagsOver i) (omega arith))
      (λ _. either (Found n) _ _ _ (λ _. fault (LatitudeOutside i) (omega arith))
      (λ _. either (Found n) _ _ _ (λ _. fault (LongitudeOutside i) (omega arith)) (λ _. sound))))))

  found-scan : (t i last : ℕ) (rs : List Station) → Found n (scan t i last rs)
  unfolding scan
  found-scan t i last [] = sound
  found-scan t i last (r ∷ rs) = found-then (found-verdict t last i r) (found-scan t (i + 1) r.id rs)

  pub found-scanned : (s : List ℕ) → Found n (scanned s)
  unfolding scanned
  found-scanned s = found-scan (top (version s)) 0 0 (stations s)

pub found-repeated : (n : ℕ) → 27 < n → (s : List ℕ) → Found n (repeated s)
unfolding repeated
found-repeated n above s = either (Found n) _ _ _ (λ _. fault (Repeated (repeat_of s)) (omega arith)) (λ _. sound)
