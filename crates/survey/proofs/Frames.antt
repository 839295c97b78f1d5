-- Why records outside of a frame stand in nobody's way. Assumes nothing.
use mathlib.Core.Path.{◌≡◌}
use mathlib.Core.Bool.{Bool, false}
use mathlib.Core.List.{List}
use Prim.Native.Nat.{ℕ, ◌≤◌, ◌<◌}
use native.Mathlib.Omega.{arith}
use Rattle.spacing.specs.Pair.{sited}
use Rattle.spacing.specs.declared.Place.{Place}
use Rattle.framing.specs.Frames.{Encloses}
use Rattle.framing.specs.declared.Frame.{Frame}
use Rattle.stations.specs.Image.{station_at, Accepted}
use Rattle.stations.specs.declared.Station.{Station}
use Rattle.survey.specs.Ways.{place_of, near}
use Rattle.survey.specs.Walking.{blocks, Skipped}
use Rattle.marking.specs.Marks.{Marked}
use Rattle.survey.proofs.Records.{known_at}
use Rattle.marking.proofs.Marks.{marked_skip}
use Rattle.survey.proofs.Shorts.{blocks-spaced}

module _ (s : List ℕ) (e : Accepted s) {km : ℕ → ℕ → ℕ → ℕ} {p : Place} {f : Frame} (v : Encloses km p f) {from to : ℕ} (k : Skipped s f from to) where
  pub unframed_clear : (j : ℕ) → from ≤ j → j < to → (m : ℕ) → near km (sited p m) (station_at s j) ≡ false
  unframed_clear j l u m =
      v.clear (place_of (station_at s j)) (known_at s e j (omega (arith, k.upto))).placed (k.each_one j l u) m (station_at s j).channel

  -- so the marks stay as they are
  pub marked_on : (look : Station → Bool) {first last : ℕ} {marks : List ℕ} → Marked (λ m j. blocks km look s (sited p m) j) first last from marks → Marked (λ m j. blocks km look s (sited p m) j) first last to marks
  marked_on look = marked_skip k.on (λ j l u m _ _. blocks-spaced km look s (sited p m) j (unframed_clear j l u m))
