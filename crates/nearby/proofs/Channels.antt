-- The channels that are free of a channel, by the last bytes of their numbers. Assumes nothing.
use mathlib.Core.Path.{◌≡◌, refl, sym, ◌∙◌}
use mathlib.Core.Bool.{Bool, true, false, true≢false}
use mathlib.Core.List.{List}
use mathlib.Core.Logic.{inl}
use Prim.Native.Nat.{ℕ, zero, suc, ◌+◌, ◌-◌, ◌%◌, ◌≤◌, ◌<◌}
use native.Mathlib.Omega.{arith}
use native.Mathlib.Decide.{ℕ_discrete, dec_lt}
use lib.ListN.{length, get_or, set, length-set}
use lib.Seq.{get_or-set_same, get_or-set_other}
use Rattle.part73.specs.Columns.{gap}
use Rattle.part73.proofs.Facts.{column_none}
use Rattle.spacing.proofs.Rule.{for_open, open_high}
use Rattle.nearby.specs.Positions.{Asked, Free, Held}

-- a place that is still true was not set to false
set-kept : (l : List Bool) (k j : ℕ) → k < length l → get_or (set l k false) j false ≡ true → (j ≡ k → ⊥) × (get_or l j false ≡ true)
set-kept l k j h e = go (ℕ_discrete j k)
  where
    go : Dec (j ≡ k) → (j ≡ k → ⊥) × (get_or l j false ≡ true)
    go (yes p) = absurd (true≢false (sym e ∙ (rw p (get_or-set_same l k false false h))))
    go (no n) = (n, sym (get_or-set_other l k j false false n) ∙ e)

over_3 : (d : ℕ) → (d ≡ 0 → ⊥) → (d ≡ 1 → ⊥) → (d ≡ 2 → ⊥) → (d ≡ 3 → ⊥) → 3 < d
over_3 zero a b c e = absurd (a refl)
over_3 (suc zero) a b c e = absurd (b refl)
over_3 (suc (suc zero)) a b c e = absurd (c refl)
over_3 (suc (suc (suc zero))) a b c e = absurd (e refl)
over_3 (suc (suc (suc (suc d)))) a b c e = omega arith

module _ {channel : ℕ} (a : Asked channel) where
  pub held : (d : ℕ) (l : List Bool) → d ≤ 54 → length l ≡ 256 → Held channel d l (set (set l ((channel + d) % 256) false) ((channel - d) % 256) false)
  unfolding gap
  held d l h e =
      let up = (channel + d) % 256 in
      let m = set l up false in
      let k : length m ≡ 256 = length-set l up false ∙ e in
      record {
        long = length-set m ((channel - d) % 256) false ∙ k;
        tells = λ c lo hi q.
            let v = set-kept m ((channel - d) % 256) (c % 256) (omega arith) q in
            let u = set-kept l up (c % 256) (omega arith) v.1 in
            (λ g. side c g u.0 v.0 (dec_lt c channel), u.1);
      }
    where
      side : (c : ℕ) → (channel - c) + (c - channel) ≡ d → (c % 256 ≡ (channel + d) % 256 → ⊥) → (c % 256 ≡ (channel - d) % 256 → ⊥) → Dec (c < channel) → ⊥
      side c g u v (yes l) = let e : c ≡ channel - d = omega arith in v (rw e refl)
      side c g u v (no n) = let e : c ≡ channel + d = omega arith in u (rw e refl)

  -- all six differences
  pub all_held : {l0 l1 l2 l3 l4 l5 l6 : List Bool} → Held channel 0 l0 l1 → Held channel 1 l1 l2 → Held channel 2 l2 l3 → Held channel 3 l3 l4 → Held channel 53 l4 l5 → Held channel 54 l5 l6 → Free channel l6
  all_held w0 w1 w2 w3 w4 w5 =
      record {
        long = w5.long;
        tells = λ c lo hi q.
            let v5 = w5.tells c lo hi q in
            let v4 = w4.tells c lo hi v5.1 in
            let v3 = w3.tells c lo hi v4.1 in
            let v2 = w2.tells c lo hi v3.1 in
            let v1 = w1.tells c lo hi v2.1 in
            let v0 = w0.tells c lo hi v1.1 in
            for_open channel c (open_high channel c (inl a.low))
            ∙ column_none (gap channel c) (over_3 (gap channel c) v0.0 v1.0 v2.0 v3.0) v4.0 v5.0;
      }
