-- Who stands in a list, and lists that ascend: there is only one ascending list with given members. Assumes nothing.
use mathlib.Core.Path.{◌≡◌, refl, sym, ◌∙◌, subst}
use mathlib.Core.Logic.{◌↔◌, ◌⊎◌, inl, inr, ⊎_elim}
use mathlib.Core.Bool.{Bool, true, false, cond, false≢true}
use mathlib.Core.List.Memᴰ
use mathlib.Core.List.{List, [], ◌∷◌, ◌++◌, map}
use Prim.Native.Nat.{ℕ, zero, suc, ◌+◌, ◌≤◌, ◌<◌}
use native.Mathlib.Omega.{arith}
use native.Mathlib.Decide.{ℕ_discrete}
use lib.Arith.{lt_of_le-ne}
use Rattle.ground.specs.Lists.{◌∈◌, span, keep, each}

-- ---- who stands in a list

module _ {A : Type 0} where
  pub in_keep : {x : A} (p : A → Bool) (l : List A) → (x ∈ keep p l) ↔ ((x ∈ l) × (p x ≡ true))
  unfolding keep
  in_keep p [] = (λ m. absurd (Memᴰ.not-nil m), λ m. m.0)
  in_keep {x} p (y ∷ l) = go (p y) refl (in_keep p l)
    where
      go : (b : Bool) → p y ≡ b → (x ∈ keep p l) ↔ ((x ∈ l) × (p x ≡ true)) → (x ∈ cond b (y ∷ keep p l) (keep p l)) ↔ ((x ∈ (y ∷ l)) × (p x ≡ true))
      go true e ih = (
        λ m. ⊎_elim (λ (q : x ≡ y). (Memᴰ.head q, rw (q, e))) (λ (n : x ∈ keep p l). (Memᴰ.tail (ih.0 n).0, (ih.0 n).1)) (Memᴰ.cases_cons m),
        λ m. ⊎_elim (λ (q : x ≡ y). Memᴰ.head q) (λ (n : x ∈ l). Memᴰ.tail (ih.1 (n, m.1))) (Memᴰ.cases_cons m.0),
      )
      go false e ih = (
        λ m. (Memᴰ.tail (ih.0 m).0, (ih.0 m).1),
        λ m. ⊎_elim (λ (q : x ≡ y). absurd (false≢true (sym e ∙ (rw q at m.1)))) (λ (n : x ∈ l). ih.1 (n, m.1)) (Memᴰ.cases_cons m.0),
      )

module _ {A B : Type 0} where
  pub in_map : {y : B} (g : A → B) (l : List A) → (y ∈ map g l) ↔ ((x : A) × (x ∈ l) × (y ≡ g x))
  in_map g [] = (λ m. absurd (Memᴰ.not-nil m), λ m. absurd (Memᴰ.not-nil m.1))
  in_map {y} g (z ∷ l) =
      let ih = in_map {y = y} g l in (
        λ m. ⊎_elim (λ (q : y ≡ g z). (z, Memᴰ.head refl, q)) (λ (n : y ∈ map g l). ((ih.0 n).0, Memᴰ.tail (ih.0 n).1, (ih.0 n).2)) (Memᴰ.cases_cons m),
        λ m. ⊎_elim (λ (q : m.0 ≡ z). Memᴰ.head (rw q at m.2)) (λ (n : m.0 ∈ l). Memᴰ.tail (ih.1 (m.0, n, m.2))) (Memᴰ.cases_cons m.1),
      )

  pub in_each : {y : B} (f : A → List B) (l : List A) → (y ∈ each f l) ↔ ((x : A) × (x ∈ l) × (y ∈ f x))
  unfolding each
  in_each f [] = (λ m. absurd (Memᴰ.not-nil m), λ m. absurd (Memᴰ.not-nil m.1))
  in_each {y} f (z ∷ l) =
      let ih = in_each {y = y} f l in (
        λ m. ⊎_elim (λ (n : y ∈ f z). (z, Memᴰ.head refl, n)) (λ (n : y ∈ each f l). ((ih.0 n).0, Memᴰ.tail (ih.0 n).1, (ih.0 n).2)) (Memᴰ.append_cases (f z) m),
        λ m. ⊎_elim (λ (q : m.0 ≡ z). Memᴰ.append_left (each f l) (rw q at m.2)) (λ (n : m.0 ∈ l). Memᴰ.append_right (f z) (ih.1 (m.0, n, m.2))) (Memᴰ.cases_cons m.1),
      )

pub in_span : (k n a : ℕ) → (k ∈ span a n) ↔ ((a ≤ k) × (k < a + n))
unfolding span
in_span k zero a = (λ m. absurd (Memᴰ.not-nil m), λ h. absurd (omega arith))
in_span k (suc n) a = (λ m. to (in_span k n (suc a)) (Memᴰ.cases_cons m), λ h. from (in_span k n (suc a)) h (ℕ_discrete a k))
  where
    to : (k ∈ span (suc a) n) ↔ ((suc a ≤ k) × (k < suc a + n)) → (k ≡ a) ⊎ (k ∈ span (suc a) n) → (a ≤ k) × (k < a + suc n)
    to ih (inl q) = (omega arith, omega arith)
    to ih (inr m) = let h = ih.0 m in (omega arith, omega arith)

    from : (k ∈ span (suc a) n) ↔ ((suc a ≤ k) × (k < suc a + n)) → (a ≤ k) × (k < a + suc n) → Dec (a ≡ k) → k ∈ (a ∷ span (suc a) n)
    from ih h (yes q) = Memᴰ.head (sym q)
    from ih h (no ne) = Memᴰ.tail (ih.1 (lt_of_le-ne h.0 ne, omega arith))

-- ---- lists that ascend

module _ {A : Type 0} where
  -- each stands before all later ones
  pub data Ascending (before : A → A → Type 0) : List A → Type 0 where
    none : Ascending before []
    ahead : {x : A} {l : List A} → ((y : A) → y ∈ l → before x y) → Ascending before l → Ascending before (x ∷ l)

  -- an order in which nothing stands before itself
  pub record Strict (before : A → A → Type 0) : Type 0 where
    pub never : {x : A} → before x x → ⊥
    pub chain : {x y z : A} → before x y → before y z → before x z

  abbrev pub Same : List A → List A → Type 0
  Same l m = (x : A) → (x ∈ l) ↔ (x ∈ m)

  module _ {before : A → A → Type 0} where
    pub ahead_of : {x : A} {l : List A} → Ascending before (x ∷ l) → (y : A) → y ∈ l → before x y
    ahead_of (ahead h a) = h

    pub rest_of : {x : A} {l : List A} → Ascending before (x ∷ l) → Ascending before l
    rest_of (ahead h a) = a

    -- two ascending lists with the same members are equal
    pub one_ascending : Strict before → (l m : List A) → Ascending before l → Ascending before m → Same l m → l ≡ m
    one_ascending s [] [] a b same = refl
    one_ascending s [] (y ∷ m) a b same = absurd (Memᴰ.not-nil ((same y).1 (Memᴰ.head refl)))
    one_ascending s (x ∷ l) [] a b same = absurd (Memᴰ.not-nil ((same x).0 (Memᴰ.head refl)))
    one_ascending s (x ∷ l) (y ∷ m) a b same =
        let q : x ≡ y = heads (Memᴰ.cases_cons ((same x).0 (Memᴰ.head refl))) (Memᴰ.cases_cons ((same y).1 (Memᴰ.head refl))) in
        let r : l ≡ m = one_ascending s l m (rest_of a) (rest_of b) (λ z. (λ n. to q n (Memᴰ.cases_cons ((same z).0 (Memᴰ.tail n))), λ n. from q n (Memᴰ.cases_cons ((same z).1 (Memᴰ.tail n))))) in
        cc
      where
        heads : (x ≡ y) ⊎ (x ∈ m) → (y ≡ x) ⊎ (y ∈ l) → x ≡ y
        heads (inl q) o = q
        heads (inr n) (inl q) = sym q
        heads (inr n) (inr o) = absurd (s.never (s.chain (ahead_of a y o) (ahead_of b x n)))

        to : {z : A} → x ≡ y → z ∈ l → (z ≡ y) ⊎ (z ∈ m) → z ∈ m
        to {z} q n (inl e) = absurd (s.never (rw (e ∙ sym q) at (ahead_of a z n)))
        to q n (inr o) = o

        from : {z : A} → x ≡ y → z ∈ m → (z ≡ x) ⊎ (z ∈ l) → z ∈ l
        from {z} q n (inl e) = absurd (s.never (rw (e ∙ q) at (ahead_of b z n)))
        from q n (inr o) = o

    pub ascending_keep : (p : A → Bool) (l : List A) → Ascending before l → Ascending before (keep p l)
    unfolding keep
    ascending_keep p [] a = none
    ascending_keep p (x ∷ l) a = go (p x) (ascending_keep p l (rest_of a))
      where
        go : (b : Bool) → Ascending before (keep p l) → Ascending before (cond b (x ∷ keep p l) (keep p l))
        go true k = ahead (λ y m. ahead_of a y ((in_keep p l).0 m).0) k
        go false k = k

    -- two lists of which the second stands after the first
    pub ascending_append : (l m : List A) → Ascending before l → Ascending before m → ((x y : A) → x ∈ l → y ∈ m → before x y) → Ascending before (l ++ m)
    ascending_append [] m a b h = b
    ascending_append (x ∷ l) m a b h =
        ahead (λ y n. ⊎_elim (ahead_of a y) (λ (o : y ∈ m). h x y (Memᴰ.head refl) o) (Memᴰ.append_cases l n))
        (ascending_append l m (rest_of a) b (λ u v i j. h u v (Memᴰ.tail i) j))

module _ {A B : Type 0} {before : A → A → Type 0} {after : B → B → Type 0} where
  -- a function that keeps the order
  pub ascending_map : (g : A → B) (l : List A) → Ascending before l → ((x y : A) → x ∈ l → y ∈ l → before x y → after (g x) (g y)) → Ascending after (map g l)
  ascending_map g [] a h = none
  ascending_map g (x ∷ l) a h =
      ahead (λ y m. let n = (in_map g l).0 m in subst (after (g x)) (sym n.2) (h x n.0 (Memᴰ.head refl) (Memᴰ.tail n.1) (ahead_of a n.0 n.1)))
      (ascending_map g l (rest_of a) (λ u v i j. h u v (Memᴰ.tail i) (Memᴰ.tail j)))

  -- ascending pieces, one for each of an ascending list, that lie one after the other
  pub ascending_each : (f : A → List B) (l : List A) → Ascending before l
      → ((x : A) → x ∈ l → Ascending after (f x))
      → ((x y : A) → x ∈ l → y ∈ l → before x y → (u v : B) → u ∈ f x → v ∈ f y → after u v)
      → Ascending after (each f l)
  unfolding each
  ascending_each f [] a p h = none
  ascending_each f (x ∷ l) a p h =
      ascending_append (f x) (each f l) (p x (Memᴰ.head refl))
      (ascending_each f l (rest_of a) (λ y m. p y (Memᴰ.tail m)) (λ u v i j. h u v (Memᴰ.tail i) (Memᴰ.tail j)))
      (λ u v i j. let n = (in_each f l).0 j in h x n.0 (Memᴰ.head refl) (Memᴰ.tail n.1) (ahead_of a n.0 n.1) u v i n.2)

pub ascending_span : (n a : ℕ) → Ascending ◌<◌ (span a n)
unfolding span
ascending_span zero a = none
ascending_span (suc n) a = ahead (λ k m. ((in_span k n (suc a)).0 m).0) (ascending_span n (suc a))

-- ---- orders

module _ {A : Type 0} where
  -- by a number
  abbrev pub By : (A → ℕ) → A → A → Type 0
  By key x y = key x < key y

  pub strict_by : (key : A → ℕ) → Strict (By key)
  strict_by key = record { never = λ h. omega arith; chain = λ h k. omega arith }

  -- by a number first, then by a further order
  abbrev pub Then : (A → ℕ) → (A → A → Type 0) → A → A → Type 0
  Then key before x y = By key x y ⊎ ((key x ≡ key y) × before x y)

  pub strict_then : (key : A → ℕ) {before : A → A → Type 0} → Strict before → Strict (Then key before)
  strict_then key {before} s = record { never = λ h. ⊎_elim (λ (l : By key _ _). omega arith) (λ (e : (key _ ≡ key _) × before _ _). s.never e.1) h; chain = λ h k. go h k }
    where
      go : {x y z : A} → Then key before x y → Then key before y z → Then key before x z
      go (inl h) (inl k) = inl (omega arith)
      go (inl h) (inr k) = inl (omega (arith, k.0))
      go (inr h) (inl k) = inl (omega (arith, h.0))
      go (inr h) (inr k) = inr (h.0 ∙ k.0, s.chain h.1 k.1)
