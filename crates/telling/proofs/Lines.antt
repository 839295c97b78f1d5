-- The lines of rows, by their positions. Assumes nothing.
use mathlib.Core.Path.{◌≡◌, refl, sym, ap, ◌∙◌}
use mathlib.Core.List.{List, [], ◌∷◌, ◌++◌, append-nil}
use Rattle.std.proofs.Common.{append_assoc}
use Prim.Native.Nat.{ℕ, zero, suc, min, ◌+◌, ◌-◌, ◌*◌, ◌/◌, ◌≤◌}
use native.Mathlib.Decide.{dec_lt}
use native.Mathlib.Omega.{arith}
use lib.ListN.{length, take, length-append}
use lib.Seq.{get_or-take, length-take-le}
use Rattle.ground.specs.Lists.{span, each}
use Rattle.ground.proofs.Spans.{span_append, span-done, each_append, each_cong}
use Rattle.lines.specs.Lines.{row_line, line_at}
use Rattle.telling.specs.Texts.{lines_text}

each_shift : (f g : ℕ → List ℕ) (n a : ℕ) → ((k : ℕ) → f (suc k) ≡ g k) → each f (span (suc a) n) ≡ each g (span a n)
unfolding each span
each_shift f g zero a h = refl
each_shift f g (suc n) a h = ap (λ (l : List ℕ). l ++ each f (span (suc (suc a)) n)) (h a) ∙ ap (λ (l : List ℕ). g a ++ l) (each_shift f g n (suc a) h)

next_line : (x y z : ℕ) (l : List ℕ) (k : ℕ) → line_at (x ∷ y ∷ z ∷ l) (suc k) ≡ line_at l k
unfolding line_at
next_line x y z l k =
    let a : 3 * suc k ≡ suc (suc (suc (3 * k))) = omega arith in
    let b : 3 * suc k + 1 ≡ suc (suc (suc (3 * k + 1))) = omega arith in
    let c : 3 * suc k + 2 ≡ suc (suc (suc (3 * k + 2))) = omega arith in
    rw (b, c, a)

-- the lines of rows, each by its position
pub lines_at : (vs : List ℕ) → lines_text vs ≡ each (line_at vs) (span 0 (length vs / 3))
unfolding lines_text each span line_at
lines_at [] = refl
lines_at (a ∷ []) = refl
lines_at (a ∷ b ∷ []) = refl
lines_at (a ∷ b ∷ c ∷ vs) =
    let e : suc (length vs / 3) ≡ length (a ∷ b ∷ c ∷ vs) / 3 = omega arith in
    ap (λ (l : List ℕ). row_line a b c ++ l) (lines_at vs ∙ sym (each_shift (line_at (a ∷ b ∷ c ∷ vs)) (line_at vs) (length vs / 3) 0 (next_line a b c vs)))
    ∙ ap (λ (n : ℕ). each (line_at (a ∷ b ∷ c ∷ vs)) (span 0 n)) e

-- the lines of the rows from one to before another
abbrev pub lines_from : List ℕ → ℕ → ℕ → List ℕ
lines_from rows from to = each (line_at rows) (span from (to - from))

-- those of the first n numbers of a buffer
pub all_lines : (rows : List ℕ) (n : ℕ) → n ≤ length rows → lines_text (take n rows) ≡ lines_from rows 0 (n / 3)
unfolding line_at
all_lines rows n h =
    let e : length (take n rows) / 3 ≡ n / 3 - 0 = omega (arith, length-take-le n rows h) in
    lines_at (take n rows)
    ∙ ap (λ (k : ℕ). each (line_at (take n rows)) (span 0 k)) e
    ∙ each_cong (line_at (take n rows)) (line_at rows) (n / 3 - 0) 0 (λ j lo hi. rw (get_or-take n rows (3 * j) 0 (omega arith), get_or-take n rows (3 * j + 1) 0 (omega arith), get_or-take n rows (3 * j + 2) 0 (omega arith)))

-- those of some of them, and of the others
pub batch : (rows : List ℕ) (from to count : ℕ) → from ≤ to → to ≤ count → lines_from rows from count ≡ lines_from rows from to ++ lines_from rows to count
batch rows from to count h g =
    let e : count - from ≡ (to - from) + (count - to) = omega arith in
    let k : from + (to - from) ≡ to = omega arith in
    ap (λ (n : ℕ). each (line_at rows) (span from n)) e
    ∙ ap (each (line_at rows)) (span_append (to - from) (count - to) from)
    ∙ each_append (line_at rows) (span from (to - from)) (span (from + (to - from)) (count - to))
    ∙ ap (λ (n : ℕ). lines_from rows from to ++ each (line_at rows) (span n (count - to))) k

pub batches_done : (rows : List ℕ) (from count : ℕ) → count ≤ from → lines_from rows from count ≡ []
unfolding each
batches_done rows from count h = ap (each (line_at rows)) (span-done from count h)

-- the lines of whole rows, and those of what follows them
pub lines_append : (a b : List ℕ) (k : ℕ) → length a ≡ 3 * k → lines_text (a ++ b) ≡ lines_text a ++ lines_text b
unfolding lines_text
lines_append [] b k e = refl
lines_append (x ∷ []) b k e = absurd (omega arith)
lines_append (x ∷ y ∷ []) b k e = absurd (omega arith)
lines_append (x ∷ y ∷ z ∷ vs) b k e =
    ap (λ (l : List ℕ). row_line x y z ++ l) (lines_append vs b (k - 1) (omega arith)) ∙ sym (append_assoc (row_line x y z) (lines_text vs) (lines_text b))

-- no rows are left
pub none_left : (rows : List ℕ) → length rows ≡ 0 → lines_text rows ≡ []
unfolding lines_text
none_left [] h = refl
none_left (x ∷ xs) h = absurd (omega arith)

nothing_after : (x t : List ℕ) → length t ≡ 0 → lines_text (x ++ t) ≡ lines_text x ++ lines_text t
nothing_after x [] h = ap lines_text (append-nil x) ∙ sym (ap (λ (l : List ℕ). lines_text x ++ l) (none_left [] h) ∙ append-nil (lines_text x))
nothing_after x (y ∷ ys) h = absurd (omega arith)

-- those of the first 500 rows, or of as many as there are, and then of the others
pub lines_chunk : (s x t : List ℕ) → s ≡ x ++ t → length x ≡ min 1500 (length s) → lines_text s ≡ lines_text x ++ lines_text t
lines_chunk s x t e c = ap lines_text e ∙ elim (dec_lt (length s) 1500) [
  | yes h ↦ nothing_after x t (omega (arith, ap length e, length-append x t, c))
  | no h ↦ lines_append x t 500 (omega (arith, c))
]
