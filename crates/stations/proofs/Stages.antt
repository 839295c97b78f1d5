-- The stages of the judgement: an accepted table has passed each, and one that passes each is accepted. Assumes nothing.
use Rattle.refusals.specs.Faults.{Verdict}
use Rattle.refusals.specs.declared.Fault.{Fault}
use Rattle.std.specs.Prelude.{Ok, Err}
use mathlib.Core.Path.{◌≡◌, refl, sym, ◌∙◌, ap}
use mathlib.Core.Logic.{◌↔◌}
use mathlib.Core.List.{List, [], ◌∷◌}
use Prim.Native.Nat.{ℕ}
use native.Mathlib.Omega.{arith}
use Rattle.stations.specs.Image.{count, then, scanned, repeated, stages, first_fault, table_of, judged, Headed, Accepted}

-- ---- any row

pub unsound : (f : Fault) → ◌≡◌ {A = Verdict} (Err f) (Ok tt) → ⊥
unsound f e = let z : ◌≡◌ {A = ℕ} 0 1 = cc in omega arith

-- nothing was wrong, and nothing is found next
pub then-sound : (v w : Verdict) → then v w ≡ (Ok tt) → (v ≡ (Ok tt)) × (w ≡ (Ok tt))
then-sound (Ok tt) w e = (refl, e)
then-sound (Err f) w e = absurd (unsound f e)

-- each of a row is sound
abbrev pub Passing : List Verdict → Type 0
Passing [] = Unit {0}
Passing (v ∷ vs) = (v ≡ (Ok tt)) × Passing vs

row-sound : (vs : List Verdict) → (first_fault vs ≡ (Ok tt)) ↔ Passing vs
row-sound [] = (λ e. tt, λ h. refl)
row-sound (v ∷ vs) = (
  λ e. let k = then-sound v (first_fault vs) e in (k.0, (row-sound vs).0 k.1),
  λ h. rw h.0 ((row-sound vs).1 h.1),
)

-- ---- the judgement

table-sound : (v : Verdict) (m n : ℕ) → table_of v m ≡ Ok n → (v ≡ (Ok tt)) × (m ≡ n)
table-sound (Ok tt) m n e = (refl, cc)
table-sound (Err f) m n e = let z : ◌≡◌ {A = ℕ} 0 1 = cc in absurd (omega arith)

module _ (s : List ℕ) where
  pub accepted : Passing (stages s) → Accepted s
  unfolding judged
  accepted h = rw ((row-sound (stages s)).1 h)

  module _ (n : ℕ) (e : judged s ≡ Ok n) where
    -- it has as many records as its header counts
    pub counted : count s ≡ n
    unfolding judged
    counted = (table-sound (first_fault (stages s)) (count s) n e).1

    pub is_accepted : Accepted s
    is_accepted = e ∙ ap Ok (sym counted)

    pub passed : Passing (stages s)
    unfolding judged
    passed = (row-sound (stages s)).0 (table-sound (first_fault (stages s)) (count s) n e).0

  -- ---- each stage by name

  pub all_passed : Headed s → scanned s ≡ (Ok tt) → repeated s ≡ (Ok tt) → Accepted s
  unfolding stages
  all_passed h k l = accepted (h, (k, (l, tt)))

  module _ (n : ℕ) (e : judged s ≡ Ok n) where
    pub headed-passed : Headed s
    unfolding stages
    headed-passed = (passed n e).0

    pub scanned-passed : scanned s ≡ (Ok tt)
    unfolding stages
    scanned-passed = (passed n e).1.0

    pub repeated-passed : repeated s ≡ (Ok tt)
    unfolding stages
    repeated-passed = (passed n e).1.1.0
