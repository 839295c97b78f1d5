-- Marks on the channels of a range: one station more, and a pass over all of them. Assumes nothing.
use mathlib.Core.Path.{◌≡◌, refl, sym, ap, ◌∙◌}
use mathlib.Core.Bool.{Bool, true, false, cond, ◌||◌, true≢false}
use mathlib.Core.List.{List}
use Prim.Native.Nat.{ℕ, zero, suc, ◌+◌, ◌-◌, ◌≤◌, ◌<◌}
use native.Mathlib.Numerals.{add-one}
use native.Mathlib.Omega.{arith}
use native.Mathlib.Decide.{ℕ_discrete}
use lib.ListN.{length, get_or}
use Rattle.marking.specs.Marks.{join, seen, Marked, Struck, Wiped}

-- ---- one station

pub struck_none : (first last who : ℕ) (marks : List ℕ) → length marks ≡ 80 → Struck (λ m. false) first last who marks marks
struck_none first last who marks e = record { long = e; at = λ m lo hi. refl }

pub struck_as : {hit hit' : ℕ → Bool} {first last who : ℕ} {entry exit : List ℕ} → ((m : ℕ) → first ≤ m → m ≤ last → hit m ≡ hit' m) → Struck hit first last who entry exit → Struck hit' first last who entry exit
struck_as {who} {entry} e s =
    record {
      long = s.long;
      at = λ m lo hi. s.at m lo hi ∙ ap (λ (t : Bool). cond t (join (get_or entry (m - 221) 0) who) (get_or entry (m - 221) 0)) (e m lo hi);
    }

-- a part of the range
pub struck_part : {hit : ℕ → Bool} {first last who : ℕ} {entry exit : List ℕ} → 221 ≤ first → last ≤ 300 → Struck hit 221 300 who entry exit → Struck hit first last who entry exit
struck_part a b s = record { long = s.long; at = λ m lo hi. s.at m (omega arith) (omega arith) }

-- one after the other, on different channels
pub struck_both : {hit more : ℕ → Bool} {first last who : ℕ} {entry middle exit : List ℕ} → ((m : ℕ) → first ≤ m → m ≤ last → more m ≡ true → hit m ≡ false)
    → Struck hit first last who entry middle → Struck more first last who middle exit → Struck (λ m. hit m || more m) first last who entry exit
struck_both {hit} {more} {who} {entry} {middle} {exit} apart s t =
    record { long = t.long; at = λ m lo hi. t.at m lo hi ∙ go m (hit m) (more m) refl refl (s.at m lo hi) (apart m lo hi) }
  where
    go : (m : ℕ) (a b : Bool) → hit m ≡ a → more m ≡ b → get_or middle (m - 221) 0 ≡ cond (hit m) (join (get_or entry (m - 221) 0) who) (get_or entry (m - 221) 0) → (more m ≡ true → hit m ≡ false)
        → cond (more m) (join (get_or middle (m - 221) 0) who) (get_or middle (m - 221) 0) ≡ cond (hit m || more m) (join (get_or entry (m - 221) 0) who) (get_or entry (m - 221) 0)
    go m true true ea eb e d = absurd (true≢false (sym ea ∙ d eb))
    go m true false ea eb e d = rw (ea, eb) (rw ea at e)
    go m false true ea eb e d = rw (ea, eb) (ap (λ (x : ℕ). join x who) (rw ea at e))
    go m false false ea eb e d = rw (ea, eb) (rw ea at e)

-- ---- a pass

pub marked_start : (way : ℕ → ℕ → Bool) {first last : ℕ} {marks : List ℕ} → 221 ≤ first → last ≤ 300 → Wiped marks → Marked way first last 0 marks
unfolding seen
marked_start way a b w = record { long = w.long; at = λ m lo hi. w.at (m - 221) (omega arith) }

pub marked_turn : {way : ℕ → ℕ → Bool} {first last i : ℕ} {marks marks' : List ℕ} → Marked way first last i marks → Struck (λ m. way m i) first last i marks marks' → Marked way first last (i + 1) marks'
unfolding seen
marked_turn {way} {i} {marks} w s =
    record { long = s.long; at = λ m lo hi. s.at m lo hi ∙ rw (w.at m lo hi, add-one i) }

-- those that stand in nobody's way are passed over
seen_skip : (way : ℕ → Bool) (i to : ℕ) → i ≤ to → ((j : ℕ) → i ≤ j → j < to → way j ≡ false) → seen way to ≡ seen way i
unfolding seen
seen_skip way i zero h f = let e : zero ≡ i = omega arith in ap (seen way) e
seen_skip way i (suc to) h f = go (ℕ_discrete i (suc to)) (λ l. seen_skip way i to l (λ j a b. f j a (omega arith)))
  where
    go : Dec (i ≡ suc to) → (i ≤ to → seen way to ≡ seen way i) → seen way (suc to) ≡ seen way i
    go (yes e) rest = ap (seen way) (sym e)
    go (no n) rest = rw (f to (omega arith) (omega arith)) (rest (omega arith))

pub marked_skip : {way : ℕ → ℕ → Bool} {first last i to : ℕ} {marks : List ℕ} → i ≤ to → ((j : ℕ) → i ≤ j → j < to → (m : ℕ) → first ≤ m → m ≤ last → way m j ≡ false) → Marked way first last i marks → Marked way first last to marks
marked_skip {way} {i} {to} h f w =
    record { long = w.long; at = λ m lo hi. w.at m lo hi ∙ sym (seen_skip (way m) i to h (λ j a b. f j a b m lo hi)) }
