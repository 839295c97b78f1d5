-- An answer that is not "blocked" names nobody: what holds of "clear" and of every refusal holds of it. Assumes nothing.
use Rattle.std.specs.Prelude.{Ok, Err, Some, None}
use mathlib.Core.Path.{◌≡◌, refl}
use Rattle.refusals.specs.declared.Fault.{Fault}
use Rattle.neighbours.specs.declared.Neighbour.{Neighbour}
use Rattle.reasons.specs.Reason.{Why}

pub unnamed : (P : Why → Type 0) → P (Ok None) → ((f : Fault) → P (Err f)) → (w : Why) → ((n : Neighbour) → w ≡ Ok (Some n) → ⊥) → P w
unnamed P clear refused (Ok None) k = clear
unnamed P clear refused (Ok (Some n)) k = absurd (k n refl)
unnamed P clear refused (Err f) k = refused f
