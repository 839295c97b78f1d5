-- Laws on `span`, `each`, `keep`, `every`. Assumes nothing.
use mathlib.Core.Path.{◌≡◌, refl, ap, ◌∙◌}
use mathlib.Core.Bool.{Bool, true, false, cond, ◌&&◌, and-false}
use mathlib.Core.List.{List, [], ◌∷◌, ◌++◌, append-nil, append_assoc}
use Prim.Native.Nat.{ℕ, zero, suc, ◌+◌, ◌-◌, ◌*◌, ◌≤◌, ◌<◌}
use native.Mathlib.Nat.{mul-suc}
use native.Mathlib.Omega.{arith}
use native.Mathlib.Decide.{ℕ_discrete}
use lib.Arith.{lt_of_le-ne}
use lib.ListN.{length, length-append}
use Rattle.ground.specs.Lists.{span, each, keep, every}

-- ---- ranges

pub length-span : (n a : ℕ) → length (span a n) ≡ n
unfolding span
length-span zero a = refl
length-span (suc n) a = ap suc (length-span n (suc a))

pub span_cons : (i b : ℕ) → i < b → span i (b - i) ≡ i ∷ span (suc i) (b - suc i)
unfolding span
span_cons i b h =
    let e : b - i ≡ suc (b - suc i) = omega arith in
    ap (span i) e

pub span-done : (i b : ℕ) → b ≤ i → span i (b - i) ≡ []
unfolding span
span-done i b h =
    let e : b - i ≡ 0 = omega arith in
    ap (span i) e

pub span_append : (m n a : ℕ) → span a (m + n) ≡ span a m ++ span (a + m) n
unfolding span
span_append zero n a =
    let e : 0 + n ≡ n = omega arith in
    let k : a ≡ a + 0 = omega arith in
    ap (span a) e ∙ ap (λ (j : ℕ). span j n) k
span_append (suc m) n a =
    let d : suc m + n ≡ suc (m + n) = omega arith in
    let e : suc a + m ≡ a + suc m = omega arith in
    ap (span a) d ∙ ap (λ (l : List ℕ). a ∷ l) (span_append m n (suc a) ∙ ap (λ (k : ℕ). span (suc a) m ++ span k n) e)

-- ---- each

pub each_cong : {A : Type 0} (f g : ℕ → List A) (n a : ℕ) → ((k : ℕ) → a ≤ k → k < a + n → f k ≡ g k) → each f (span a n) ≡ each g (span a n)
unfolding span each
each_cong f g zero a h = refl
each_cong f g (suc n) a h =
    ap (λ (l : List _). l ++ each f (span (suc a) n)) (h a (omega arith) (omega arith))
    ∙ ap (λ (l : List _). g a ++ l) (each_cong f g n (suc a) (λ k lo hi. h k (omega arith) (omega arith)))

pub each_none : {A : Type 0} (f : ℕ → List A) (n a : ℕ) → ((k : ℕ) → a ≤ k → k < a + n → f k ≡ []) → each f (span a n) ≡ []
unfolding span each
each_none f zero a h = refl
each_none f (suc n) a h =
    ap (λ (l : List _). l ++ each f (span (suc a) n)) (h a (omega arith) (omega arith))
    ∙ each_none f n (suc a) (λ k lo hi. h k (omega arith) (omega arith))

pub each_append : {A B : Type 0} (f : A → List B) (xs ys : List A) → each f (xs ++ ys) ≡ each f xs ++ each f ys
unfolding each
each_append f [] ys = refl
each_append f (x ∷ xs) ys = rw (each_append f xs ys, append_assoc)

-- one after the other
pub each-each : {A B C : Type 0} (f : A → List B) (g : B → List C) (l : List A) → each g (each f l) ≡ each (λ x. each g (f x)) l
unfolding each
each-each f g [] = refl
each-each f g (x ∷ l) = each_append g (f x) (each f l) ∙ ap (λ (k : List _). each g (f x) ++ k) (each-each f g l)

-- where f gives something at i alone
pub each-single : {A : Type 0} (f : ℕ → List A) (n a i : ℕ) → a ≤ i → i < a + n → ((k : ℕ) → a ≤ k → k < a + n → (k ≡ i → ⊥) → f k ≡ []) → each f (span a n) ≡ f i
unfolding span each
each-single f zero a i lo hi h = absurd (omega arith)
each-single {A} f (suc n) a i lo hi h = go (ℕ_discrete a i) (λ ne. each-single f n (suc a) i (lt_of_le-ne lo ne) (omega arith) (λ k l u. h k (omega arith) (omega arith)))
  where
    go : Dec (a ≡ i) → ((a ≡ i → ⊥) → each f (span (suc a) n) ≡ f i) → f a ++ each f (span (suc a) n) ≡ f i
    go (yes e) ih =
        ap (λ (l : List A). f a ++ l) (each_none f n (suc a) (λ k l u. h k (omega arith) (omega arith) (λ q. omega arith)))
        ∙ append-nil (f a)
        ∙ ap f e
    go (no ne) ih = ap (λ (l : List A). l ++ each f (span (suc a) n)) (h a (omega arith) (omega arith) ne) ∙ ih ne

-- ---- every

pub every_true : (p : ℕ → Bool) (n a : ℕ) → ((k : ℕ) → a ≤ k → k < a + n → p k ≡ true) → every p (span a n) ≡ true
unfolding span every
every_true p zero a h = refl
every_true p (suc n) a h =
    rw (h a (omega arith) (omega arith)) (every_true p n (suc a) (λ k lo hi. h k (omega arith) (omega arith)))

pub every_false : (p : ℕ → Bool) (n a i : ℕ) → a ≤ i → i < a + n → p i ≡ false → every p (span a n) ≡ false
unfolding span every
every_false p zero a i lo hi e = absurd (omega arith)
every_false p (suc n) a i lo hi e = go (ℕ_discrete a i) (λ ne. every_false p n (suc a) i (lt_of_le-ne lo ne) (omega arith) e)
  where
    go : Dec (a ≡ i) → ((a ≡ i → ⊥) → every p (span (suc a) n) ≡ false) → (p a && every p (span (suc a) n)) ≡ false
    go (yes q) ih = rw (ap p q ∙ e)
    go (no ne) ih = rw (ih ne) (and-false (p a))

-- ---- keep

pub keep_none : {A : Type 0} (p : A → Bool) (l : List A) → ((x : A) → p x ≡ false) → keep p l ≡ []
unfolding keep
keep_none p [] h = refl
keep_none p (x ∷ xs) h = rw (h x) (keep_none p xs h)

pub each-length : {A : Type 0} (f : A → List ℕ) (b : ℕ) (l : List A) → ((x : A) → length (f x) ≤ b) → length (each f l) ≤ b * length l
unfolding each
each-length f b [] h = omega arith
each-length f b (x ∷ xs) h = omega (arith, length-append (f x) (each f xs), h x, each-length f b xs h, mul-suc b (length xs))

pub cond_length : (t : Bool) (l : List ℕ) → length (cond t l []) ≤ length l
cond_length true l = omega arith
cond_length false l = omega arith
