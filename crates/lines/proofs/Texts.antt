-- What a text holds after one part is put behind another. Assumes nothing.
use mathlib.Core.Path.{◌≡◌, refl, sym, ap, ◌∙◌}
use mathlib.Core.List.{List, [], ◌∷◌, ◌++◌, append-nil}
use Prim.Native.Nat.{ℕ, ◌+◌, ◌-◌, ◌≤◌, ◌<◌}
use native.Mathlib.Numerals.{add-one}
use native.Mathlib.Omega.{arith}
use lib.ListN.{length, set, take, drop, get_or, length-append}
use lib.Seq.{sets, length-sets, sets-eq, drop-drop, take-suc}
use borrow.Rule.Slice.PartMut.{put_mid}
use Rattle.std.proofs.Common.{append_assoc}
use Rattle.ground.specs.Writing.{Wrote}
use Rattle.ground.specs.Lists.{each}
use Rattle.ground.proofs.Spans.{each_append}
use Rattle.ground.proofs.Writes.{sets_append, wrote_as, wrote_none}
use Rattle.lines.specs.declared.buffer.Text.{Text}
use Rattle.lines.specs.Lines.{spaced, ended, numbers_line}
use Rattle.lines.specs.Puts.{Puts}

pub both : {u v entry mid exit : List ℕ} {at next r : ℕ} → Wrote u entry at mid next → Wrote v mid next exit r → Wrote (u ++ v) entry at exit r
both {u} {v} {entry} {mid} {exit} {at} {next} a b =
    record {
      next = omega (arith, a.next, b.next, length-append u v);
      stored =
          b.stored
          ∙ ap (λ (k : ℕ). sets mid k v) a.next
          ∙ ap (λ (l : List ℕ). sets l (at + length u) v) a.stored
          ∙ sym (sets_append u v entry at);
    }

-- one byte
pub byte : (entry : List ℕ) (at x : ℕ) → Wrote (x ∷ []) entry at (set entry at x) (at + 1)
byte entry at x = record { next = refl; stored = refl }

-- a text keeps its length
pub kept : {vs entry exit : List ℕ} {at r : ℕ} → Wrote vs entry at exit r → length exit ≡ length entry
kept {vs} {entry} {exit} {at} w = ap length w.stored ∙ length-sets entry at vs

-- a word that is copied to a place stands there
pub placed : (old u : List ℕ) (at e : ℕ) → e ≡ at + length u → e ≤ length old → put_mid at (e - at) old u ≡ sets old at u
placed old u at e h l =
    let m : at + (e - at) ≡ at + length u = omega arith in
    sym (append_assoc (take at old) u (drop (e - at) (drop at old)))
    ∙ ap (λ (t : List ℕ). (take at old ++ u) ++ t) (drop-drop (e - at) at old ∙ ap (λ (k : ℕ). drop k old) m)
    ∙ sym (sets-eq u old at (omega arith))

-- nothing was put
pub none : {a : Text} → Puts [] a a
none = record { wrote = wrote_none _ _; same_reference = refl }

module _ {a b : Text} where
  -- the same line
  pub puts_as : {u v : List ℕ} → u ≡ v → Puts u a b → Puts v a b
  puts_as e p = record { wrote = wrote_as e p.wrote; same_reference = p.same_reference }

  -- a text keeps its length
  pub puts_kept : {vs : List ℕ} → Puts vs a b → length b.bytes.now ≡ length a.bytes.now
  puts_kept p = kept p.wrote

  -- one part behind another
  pub puts_both : {u v : List ℕ} {c : Text} → Puts u a b → Puts v b c → Puts (u ++ v) a c
  puts_both p q = record { wrote = both p.wrote q.wrote; same_reference = q.same_reference ∙ p.same_reference }

-- a line of no numbers
pub no_numbers : {a : Text} (numbers : List ℕ) → length numbers ≡ 0 → Puts (numbers_line numbers) a a
unfolding numbers_line
no_numbers [] e = none
no_numbers (x ∷ xs) e = absurd (omega arith)

-- one number more, and a space behind it
pub next_number : (numbers : List ℕ) (i d : ℕ) → i < length numbers → each spaced (take i numbers) ++ spaced (get_or numbers i d) ≡ each spaced (take (i + 1) numbers)
unfolding each
next_number numbers i d h =
    ap (λ (l : List ℕ). each spaced (take i numbers) ++ l) (sym (append-nil (spaced (get_or numbers i d))))
    ∙ sym (rw (add-one, take-suc numbers i d h) (each_append spaced (take i numbers) (get_or numbers i d ∷ [])))

-- the numbers before the last, a space behind each, and the last
pub numbers_end : (before : List ℕ) (last : ℕ) → numbers_line (before ++ (last ∷ [])) ≡ each spaced before ++ ended last
unfolding numbers_line each
numbers_end [] last = refl
numbers_end (x ∷ []) last = ap (λ (l : List ℕ). l ++ ended last) (sym (append-nil (spaced x)))
numbers_end (x ∷ y ∷ zs) last = ap (λ (l : List ℕ). spaced x ++ l) (numbers_end (y ∷ zs) last) ∙ sym (append_assoc (spaced x) (each spaced (y ∷ zs)) (ended last))
