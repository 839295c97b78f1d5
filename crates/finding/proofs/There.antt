-- Whether an id stands in an accepted table, by its place. Assumes nothing.
use Rattle.std.specs.Prelude.{Result, Ok, Err}
use mathlib.Core.Path.{◌≡◌, refl, sym, ◌∙◌}
use mathlib.Core.List.{List}
use Prim.Native.Nat.{ℕ, ◌<◌}
use native.Mathlib.Omega.{arith}
use Rattle.ground.specs.Guard.{given}
use Rattle.ground.specs.Lists.{first}
use Rattle.stations.specs.Image.{station_at, stations, judged}
use Rattle.stations.specs.Lists.{has_id, from_id}
use Rattle.stations.proofs.Places.{present, present_first, absent}
use Rattle.finding.specs.Asking.{found_at}

module _ (s : List ℕ) (n : ℕ) (e : judged s ≡ Ok n) (id p : ℕ) (here : p ≡ first (from_id id) (stations s)) where
  pub there : p < n → (station_at s p).id ≡ id → ◌≡◌ {A = Result ℕ ℕ} (Ok p) (found_at id (stations s))
  unfolding found_at given
  there h q =
      let t = present s n e id (omega (arith, here)) (rw here at q) in
      let f : first (has_id id) (stations s) ≡ p = present_first s n e id t ∙ sym here in
      rw (t, f) refl

  pub not_there : (p < n → (station_at s p).id ≡ id → ⊥) → ◌≡◌ {A = Result ℕ ℕ} (Err p) (found_at id (stations s))
  unfolding found_at given
  not_there out = rw (absent s n e id (λ l q. out (omega (arith, here)) (rw (← here) at q)), ← here) refl
