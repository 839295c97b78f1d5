-- The slots: a walk along a way, and a position that is put into the empty slot at its end. Whatever it is for positions to be the
-- same, and whatever number each has, as long as those that are the same have one number. Assumes nothing.
use mathlib.Core.Path.{◌≡◌, refl, sym, ◌∙◌, subst}
use mathlib.Core.Logic.{inl, inr, ⊎_elim}
use mathlib.Core.Bool.{Bool, true, false}
use mathlib.Core.List.{List}
use Prim.Native.Nat.{ℕ, zero, suc, ◌+◌, ◌*◌, ◌/◌, ◌≤◌, ◌<◌}
use native.Mathlib.Nat.{mod-lt}
use native.Mathlib.Omega.{arith}
use native.Mathlib.Decide.{ℕ_discrete, dec_lt}
use lib.ListN.{get_or, set, length-set, replicate, length-replicate, get_or-replicate}
use lib.Seq.{get_or-set_same, get_or-set_other}
use Rattle.versions.specs.Version.{limit}
use Rattle.repeats.specs.Repeats.{FirstRepeat}
use Rattle.repeats.specs.Slots.{slots, begin, onward, left_of, slot_of, At, Taken, Stands, Kept, Alone, Sought}

-- what holds of each before m and of m holds of each up to it
each_more : (P : ℕ → Type 0) (m : ℕ) → ((l : ℕ) → l < m → P l) → P m → (l : ℕ) → l < m + 1 → P l
each_more P m h k l g = elim (ℕ_discrete l m) [ yes q ↦ subst P (sym q) k | no ne ↦ h l (omega arith) ]

-- ---- where a way goes

pub begins : (x : ℕ) → begin x < 4096
unfolding begin
begins x = mod-lt _ (omega arith)

pub goes : (k w : ℕ) → k < limit → onward (2 * k) w < slots
unfolding onward
goes k w h = omega arith

-- a position's own slots are no other's, and no way begins at one
own : (k w j v : ℕ) → onward (2 * k) w ≡ onward (2 * j) v → k ≡ j
unfolding onward
own k w j v e = omega (arith, e)

apart : (x v w : ℕ) → begin x ≡ onward v w → ⊥
unfolding onward
apart x v w e = omega (arith, e, begins x)

module _ (t : List ℕ) (x : ℕ) where
  slot_in : (m : ℕ) → Taken t x m → slot_of t x m < slots
  unfolding slot_of
  slot_in zero h = omega (arith, begins x)
  slot_in (suc m) h = let k = h.each_one m (omega arith) in rw k.2 (goes k.0 _ k.1)

  fewer : (l m : ℕ) → l ≤ m → Taken t x m → Taken t x l
  fewer l m h w = record { each_one = λ j k. w.each_one j (omega arith) }

-- ---- a position put into an empty slot

module _ (t : List ℕ) (r v : ℕ) (empty : get_or t r 0 ≡ 2 * limit) where
  -- a taken slot holds what it held
  holds : (c k : ℕ) → k < limit → get_or t c 0 ≡ 2 * k → get_or (set t r v) c 0 ≡ 2 * k
  holds c k h e = get_or-set_other t r c v 0 (λ q. let z : get_or t c 0 ≡ 2 * limit = rw q empty in omega arith) ∙ e

  -- so a way goes where it went
  goes_on : (x m : ℕ) → Taken t x m → slot_of (set t r v) x m ≡ slot_of t x m
  unfolding slot_of
  goes_on x zero h = refl
  goes_on x (suc m) h = let k = h.each_one m (omega arith) in rw (goes_on x m (fewer t x m (suc m) (omega arith) h), holds (slot_of t x m) k.0 k.1 k.2, k.2)

  still_taken : (x m : ℕ) → Taken t x m → Taken (set t r v) x m
  still_taken x m h = record { each_one = λ l g. let k = h.each_one l g in (k.0, k.1, rw (goes_on x l (fewer t x l m (omega arith) h)) (holds (slot_of t x l) k.0 k.1 k.2)) }

  still_stands : (x j : ℕ) → j < limit → Stands t x j → Stands (set t r v) x j
  still_stands x j h w =
      record {
        steps = w.steps;
        taken = still_taken x w.steps w.taken;
        here = rw (goes_on x w.steps w.taken) (holds (slot_of t x w.steps) j h w.here);
      }

-- ---- the walk

-- a walk on the way of x: the slot that it has come to, what is left of x, who is there; and that the position i is the same as none
-- that was met
pub record Walking (same : ℕ → ℕ → Bool) (x : ℕ) (t : List ℕ) (i slot left v : ℕ) : Type 0 where
  pub steps : ℕ
  pub taken : Taken t x steps
  pub is : slot_of t x steps ≡ slot
  pub rest : left_of x steps ≡ left
  pub at : get_or t slot 0 ≡ v
  pub other : (l : ℕ) → l < steps → (j : ℕ) → get_or t (slot_of t x l) 0 ≡ 2 * j → same i j ≡ false

pub walk_in : {same : ℕ → ℕ → Bool} {x : ℕ} {t : List ℕ} {i slot left v : ℕ} → Walking same x t i slot left v → slot < slots
walk_in {same} {x} {t} w = rw w.is at (slot_in t x w.steps w.taken)

module _ (same : ℕ → ℕ → Bool) (x : ℕ) (t : List ℕ) (i : ℕ) where
  pub walk_start : Walking same x t i (begin x) x (get_or t (begin x) 0)
  unfolding slot_of left_of
  walk_start = record { steps = 0; taken = record { each_one = λ l h. absurd (omega arith) }; is = refl; rest = refl; at = refl; other = λ l h. absurd (omega arith) }

  -- who is met is not the same
  pub walk_on : (slot left v k : ℕ) → Walking same x t i slot left v → v ≡ 2 * k → k < limit → same i k ≡ false → Walking same x t i (onward v left) (left / 2) (get_or t (onward v left) 0)
  unfolding slot_of left_of
  walk_on slot left v k w q h e =
      let m = w.steps in
      let met : get_or t (slot_of t x m) 0 ≡ v = rw w.is w.at in
      record {
        steps = suc m;
        taken = record { each_one = λ l g. each_more (λ l. At t (slot_of t x l)) m w.taken.each_one (k, h, met ∙ q) l (omega arith) };
        is = rw (met, w.rest);
        rest = rw w.rest;
        at = refl;
        other = λ l g. each_more (λ l. (j : ℕ) → get_or t (slot_of t x l) 0 ≡ 2 * j → same i j ≡ false) m w.other (λ j f. let z : j ≡ k = omega arith in rw z e) l (omega arith);
      }

module _ (number : ℕ → ℕ) (same : ℕ → ℕ → Bool) (common : (i j : ℕ) → same i j ≡ true → number i ≡ number j) where
  module _ (t : List ℕ) (i : ℕ) (kept : Kept number t i) (few : i < limit) where
    -- who is met stands before i
    pub walk-met : (slot left v : ℕ) → Walking same (number i) t i slot left v → (v ≡ 2 * limit → ⊥) → (k : ℕ) × (k < i) × (v ≡ 2 * k)
    walk-met slot left v w ne =
        ⊎_elim (λ (h : (j : ℕ) × (j < i) × (get_or t slot 0 ≡ 2 * j)). (h.0, h.1, sym w.at ∙ h.2))
        (λ (e : get_or t slot 0 ≡ 2 * limit). absurd (ne (sym w.at ∙ e)))
        (kept.who slot (walk_in w))

    -- nobody is there: the position is the same as none before it, since that one would have been met
    pub walk_end : (slot left v : ℕ) → Walking same (number i) t i slot left v → v ≡ 2 * limit → Alone same (number i) t i slot
    walk_end slot left v w e = record { other = λ j h. go j h (same i j) refl; steps = w.steps; taken = w.taken; is = w.is; empty = w.at ∙ e }
      where
        m : ℕ
        m = w.steps

        nobody : get_or t (slot_of t (number i) m) 0 ≡ 2 * limit
        nobody = rw w.is (w.at ∙ e)

        met : (j : ℕ) → j < i → Stands t (number i) j → same i j ≡ false
        met j h s =
            let l = s.steps in
            let here = s.here in
            elim (dec_lt l m) [
              | yes g ↦ w.other l g j here
              | no g ↦ elim (dec_lt m l) [
                | yes f ↦ let k = s.taken.each_one m f in absurd (omega (arith, k.1, k.2, nobody))
                | no f ↦ let q : l ≡ m = omega arith in absurd (omega (arith, rw q at here, nobody))
              ]
            ]

        go : (j : ℕ) → j < i → (b : Bool) → same i j ≡ b → same i j ≡ false
        go j h true q = met j h (rw (← common i j q) at (kept.stands j h))
        go j h false q = q

    -- it is put there
    pub kept_on : (r : ℕ) → r < slots → Alone same (number i) t i r → Kept number (set t r (2 * i)) (i + 1)
    unfolding slot_of
    kept_on r within a =
        record {
          size = length-set t r (2 * i) ∙ kept.size;
          who = λ c h. elim (ℕ_discrete c r) [
            | yes q ↦ inl (i, omega arith, rw q here)
            | no ne ↦ ⊎_elim (λ (g : (j : ℕ) × (j < i) × (get_or t c 0 ≡ 2 * j)). inl (g.0, omega (arith, g.1), elsewhere c ne ∙ g.2)) (λ (g : get_or t c 0 ≡ 2 * limit). inr (elsewhere c ne ∙ g)) (kept.who c h)
          ];
          later = λ k w h. elim (ℕ_discrete (onward (2 * k) w) r) [
            | yes q ↦ rw (q, here) (omega (arith, parent a.steps a.taken a.is k w (sym q)))
            | no ne ↦ rw (elsewhere (onward (2 * k) w) ne) (kept.later k w h)
          ];
          stands = each_more (λ j. Stands (set t r (2 * i)) (number j) j) i
              (λ j h. still_stands t r (2 * i) a.empty (number j) j (omega arith) (kept.stands j h))
              (record { steps = a.steps; taken = still_taken t r (2 * i) a.empty (number i) a.steps a.taken; here = rw (goes_on t r (2 * i) a.empty (number i) a.steps a.taken, a.is) here });
        }
      where
        here : get_or (set t r (2 * i)) r 0 ≡ 2 * i
        here = get_or-set_same t r (2 * i) 0 (omega (arith, kept.size))

        elsewhere : (c : ℕ) → (c ≡ r → ⊥) → get_or (set t r (2 * i)) c 0 ≡ get_or t c 0
        elsewhere c ne = get_or-set_other t r c (2 * i) 0 ne

        -- where its slot is another position's own, that one stands before it
        parent : (m : ℕ) → Taken t (number i) m → slot_of t (number i) m ≡ r → (k w : ℕ) → r ≡ onward (2 * k) w → k < i
        parent zero h q k w e = absurd (apart (number i) (2 * k) w (q ∙ e))
        parent (suc m) h q k w e =
            let j = h.each_one m (omega arith) in
            let there = j.2 in
            let z : onward (2 * j.0) (left_of (number i) m) ≡ r = rw there at q in
            let g : j.0 ≡ k = own j.0 (left_of (number i) m) k w (z ∙ e) in
            let within = slot_in t (number i) m (fewer t (number i) m (suc m) (omega arith) h) in
            ⊎_elim (λ (f : (l : ℕ) × (l < i) × (get_or t (slot_of t (number i) m) 0 ≡ 2 * l)). omega (arith, f.1, f.2)) (λ (f : get_or t (slot_of t (number i) m) 0 ≡ 2 * limit). absurd (omega (arith, j.1))) (kept.who (slot_of t (number i) m) within)

-- ---- the search

-- it has come to i, and none before i is the same as an earlier one
pub record Searching (number : ℕ → ℕ) (same : ℕ → ℕ → Bool) (n : ℕ) (t : List ℕ) (i : ℕ) : Type 0 where
  pub upto : i ≤ n
  pub kept : Kept number t i
  pub before : (j : ℕ) → j < i → (k : ℕ) → k < j → same j k ≡ false

pub search_start : (number : ℕ → ℕ) (same : ℕ → ℕ → Bool) (n : ℕ) → Searching number same n (replicate slots (2 * limit)) 0
search_start number same n = record {
  upto = omega arith;
  kept = record {
    size = length-replicate {A = ℕ} slots (2 * limit);
    who = λ c h. inr (get_or-replicate {A = ℕ} slots c (2 * limit) 0 h);
    later = λ k w h. rw (get_or-replicate {A = ℕ} slots (onward (2 * k) w) (2 * limit) 0 (goes k w h)) (omega arith);
    stands = λ j h. absurd (omega arith);
  };
  before = λ j h. absurd (omega arith);
}

module _ {number : ℕ → ℕ} {same : ℕ → ℕ → Bool} {n : ℕ} {t : List ℕ} {i : ℕ} (v : Searching number same n t i) where
  pub search_met : (r : ℕ) → Sought same (number i) t i r → r ≡ slots → FirstRepeat same n i
  search_met r s e = record { upto = v.upto; before = v.before; earlier = λ _. s.met e }

  pub search_on : ((i j : ℕ) → same i j ≡ true → number i ≡ number j) → n ≤ limit → (r : ℕ) → i < n → Sought same (number i) t i r → r < slots → Searching number same n (set t r (2 * i)) (i + 1)
  search_on common few r h s within =
      let a = s.alone within in
      record {
        upto = omega arith;
        kept = kept_on number same common t i v.kept (omega arith) r within a;
        before = each_more (λ j. (k : ℕ) → k < j → same j k ≡ false) i v.before a.other;
      }

  pub search_end : n ≤ i → FirstRepeat same n n
  search_end h = let z : i ≡ n = omega (arith, v.upto) in record { upto = omega arith; before = rw z at v.before; earlier = λ l. absurd (omega arith) }
