-- Rows as numbers, and a walk that writes: what is left to write, written from here, is the whole written from the start.
-- Assumes nothing.
use mathlib.Core.Path.{◌≡◌, refl, sym, ap, ◌∙◌}
use mathlib.Core.Bool.{Bool, true, false, cond}
use mathlib.Core.List.{List, [], ◌∷◌, ◌++◌, map}
use Prim.Native.Nat.{ℕ, suc, ◌+◌, ◌-◌, ◌≤◌, ◌<◌}
use native.Mathlib.Nat.{add-zero}
use native.Mathlib.Numerals.{add-one}
use native.Mathlib.Omega.{arith}
use lib.ListN.{length, set, length-append}
use lib.Seq.{sets, length-sets}
use Rattle.ground.specs.Lists.{span, each, keep}
use Rattle.ground.specs.Rows.{Row, flat}
use Rattle.ground.specs.Writing.{Wrote}
use Rattle.ground.proofs.Spans.{span_cons, span-done}

-- ---- stores

pub sets_append : (u v l : List ℕ) (i : ℕ) → sets l i (u ++ v) ≡ sets (sets l i u) (i + length u) v
sets_append [] v l i = rw add-zero
sets_append (a ∷ u) v l i =
    let e : suc i + length u ≡ i + suc (length u) = omega arith in
    sets_append u v (set l i a) (suc i) ∙ ap (λ (k : ℕ). sets (sets (set l i a) (suc i) u) k v) e

-- ---- rows

pub flat_append : (u v : List Row) → flat (u ++ v) ≡ flat u ++ flat v
unfolding flat
flat_append [] v = refl
flat_append (r ∷ u) v = ap (λ (l : List ℕ). r.a ∷ r.b ∷ r.c ∷ l) (flat_append u v)

pub flat-each : {A : Type 0} (f : A → List Row) (l : List A) → flat (each f l) ≡ each (λ x. flat (f x)) l
unfolding flat each
flat-each f [] = refl
flat-each f (x ∷ xs) = flat_append (f x) (each f xs) ∙ ap (λ (l : List ℕ). flat (f x) ++ l) (flat-each f xs)

-- the numbers of the rows of those that pass, one at a time
pub flat_keep : {A : Type 0} (p : A → Bool) (g : A → Row) (l : List A) → flat (map g (keep p l)) ≡ each (λ x. cond (p x) ((g x).a ∷ (g x).b ∷ (g x).c ∷ []) []) l
unfolding flat each keep
flat_keep p g [] = refl
flat_keep p g (x ∷ xs) = go (flat_keep p g xs) (p x)
  where
    go : flat (map g (keep p xs)) ≡ each (λ y. cond (p y) ((g y).a ∷ (g y).b ∷ (g y).c ∷ []) []) xs → (t : Bool) → flat (map g (cond t (x ∷ keep p xs) (keep p xs))) ≡ cond t ((g x).a ∷ (g x).b ∷ (g x).c ∷ []) [] ++ each (λ y. cond (p y) ((g y).a ∷ (g y).b ∷ (g y).c ∷ []) []) xs
    go ih true = ap (λ (l : List ℕ). (g x).a ∷ (g x).b ∷ (g x).c ∷ l) ih
    go ih false = ih

-- ---- a walk over the numbers from i to b that writes what f gives at each

abbrev pub todo : (ℕ → List ℕ) → ℕ → ℕ → List ℕ
todo f i b = each f (span i (b - i))

-- what is left to do, done from here, gives what the whole list stored at the start would
pub record Walking (f : ℕ → List ℕ) (b i at : ℕ) (rows : List ℕ) (vs : List ℕ) (at₀ : ℕ) (rows₀ : List ℕ) : Type 0 where
  pub places : at + length (todo f i b) ≡ at₀ + length vs
  pub stores : sets rows at (todo f i b) ≡ sets rows₀ at₀ vs

pub walk_start : (f : ℕ → List ℕ) (b i at : ℕ) (rows vs : List ℕ) → todo f i b ≡ vs → Walking f b i at rows vs at rows
walk_start f b i at rows vs e = record { places = ap (λ (l : List ℕ). at + length l) e; stores = ap (sets rows at) e }

pub walk_turn : {f : ℕ → List ℕ} {b i at : ℕ} {rows vs : List ℕ} {at₀ : ℕ} {rows₀ : List ℕ} {rows' : List ℕ} {at' : ℕ}
    → i < b → Walking f b i at rows vs at₀ rows₀ → Wrote (f i) rows at rows' at' → Walking f b (i + 1) at' rows' vs at₀ rows₀
unfolding each
walk_turn {f} {b} {i} {at} {rows} {vs} {at₀} {rows₀} {rows'} {at'} h w r =
    let e : todo f i b ≡ f i ++ todo f (i + 1) b = rw (span_cons i b h, add-one i) in
    record {
      places = omega (arith, r.next, w.places, ap length e, length-append (f i) (todo f (i + 1) b));
      stores =
          ap (λ (k : ℕ). sets rows' k (todo f (i + 1) b)) r.next
          ∙ ap (λ (l : List ℕ). sets l (at + length (f i)) (todo f (i + 1) b)) r.stored
          ∙ sym (sets_append (f i) (todo f (i + 1) b) rows at)
          ∙ ap (sets rows at) (sym e)
          ∙ w.stores;
    }

pub walk_end : {f : ℕ → List ℕ} {b i at : ℕ} {rows vs : List ℕ} {at₀ : ℕ} {rows₀ : List ℕ} → b ≤ i → Walking f b i at rows vs at₀ rows₀ → Wrote vs rows₀ at₀ rows at
unfolding each
walk_end {f} {b} {i} {at} {rows} h w =
    let e : todo f i b ≡ [] = ap (each f) (span-done i b h) in
    record {
      next = omega (arith, w.places, ap length e);
      stored = sym (ap (sets rows at) e) ∙ w.stores;
    }

-- a walk keeps the buffer's length
pub walk-length : {f : ℕ → List ℕ} {b i at : ℕ} {rows vs : List ℕ} {at₀ : ℕ} {rows₀ : List ℕ} → Walking f b i at rows vs at₀ rows₀ → length rows ≡ length rows₀
walk-length {f} {b} {i} {at} {rows} {vs} {at₀} {rows₀} w = sym (length-sets rows at (todo f i b)) ∙ ap length w.stores ∙ length-sets rows₀ at₀ vs

pub wrote_as : {vs vs' entry exit : List ℕ} {at r : ℕ} → vs ≡ vs' → Wrote vs entry at exit r → Wrote vs' entry at exit r
wrote_as {at} {r} e w = record { next = w.next ∙ ap (λ (l : List ℕ). at + length l) e; stored = w.stored ∙ ap (sets _ at) e }

pub wrote_none : (entry : List ℕ) (at : ℕ) → Wrote [] entry at entry at
wrote_none entry at = record { next = sym (add-zero at); stored = refl }
