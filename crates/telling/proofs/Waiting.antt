-- What waits in a text, and the lines of rows that are told in batches. Assumes nothing.
use mathlib.Core.Path.{◌≡◌, sym, ap, subst, ◌∙◌}
use Rattle.std.specs.Prelude.{Result, IsOk}
use mathlib.Core.List.{List, [], ◌++◌}
use Prim.Native.Nat.{ℕ, ◌+◌, ◌/◌, ◌≤◌}
use native.Mathlib.Omega.{arith}
use lib.ListN.{length, take, drop, length-append}
use lib.Seq.{sets-eq, take_at, length-take-le}
use Rattle.ground.specs.Writing.{Wrote}
use Rattle.lines.specs.Lines.{short_line}
use Rattle.lines.specs.Puts.{Puts}
use Rattle.lines.specs.declared.buffer.Text.{Text}
use Rattle.lines.proofs.Texts.{puts_kept}
use Rattle.streams.specs.Pieces.{Telling, Roomed}
use Rattle.streams.specs.declared.Unwritten.{Unwritten}
use Rattle.streams.proofs.Pieces.{put, start, left_as}
use Rattle.telling.specs.Texts.{lines_text, short_text}
use Rattle.telling.proofs.Lines.{lines_from, all_lines}

-- what is put at a place waits behind what waited before
pub waiting : {u text text' : List ℕ} {at r : ℕ} → r ≤ length text → Wrote u text at text' r → take r text' ≡ take at text ++ u
waiting {u} {text} {text'} {at} {r} h w =
    let l : at + length u ≤ length text = omega (arith, w.next) in
    let k : length (take at text) ≡ at = length-take-le at text (omega arith) in
    ap (take r) (w.stored ∙ sets-eq u text at l) ∙ take_at (take at text ++ u) (drop (at + length u) text) r (omega (arith, length-append (take at text) u, w.next))

-- so a part of what is left goes to what waits
pub put_in : {all text text' : List ℕ} {a b at r : ℕ} (u left : List ℕ) → r ≤ length text → Telling all a b (take at text) (u ++ left) → Wrote u text at text' r → Telling all a b (take r text') left
put_in u left h t w = put u left t (waiting h w)

-- what waits in a text
abbrev pub waits : Text → List ℕ
waits a = take a.at a.bytes.now

module _ {u : List ℕ} {a b : Text} (p : Puts u a b) where
  inside : b.at ≤ length a.bytes.now
  inside = omega (arith, b.within, puts_kept p)

  pub text_waiting : waits b ≡ waits a ++ u
  text_waiting = waiting inside p.wrote

  pub text_put_in : {all : List ℕ} {m n : ℕ} (left : List ℕ) → Telling all m n (waits a) (u ++ left) → Telling all m n (waits b) left
  text_put_in left t = put_in u left inside t p.wrote

-- what waits, waits or was told after room was made
pub after_room : {all left : List ℕ} (a b : Text) {m n n' : ℕ} {r : Result (Unit {0}) Unwritten} → b.bytes.now ≡ a.bytes.now → Roomed a.bytes.now a.at n b.at n' r → IsOk r → Telling all m n (waits a) left → Telling all m n' (waits b) left
after_room {all} {left} a b {m} {n} {n'} e r ok t = subst (λ (l : List ℕ). Telling all m n' (take b.at l) left) (sym e) (r.kept ok all left m t)

-- `short K`, and K lines: nothing is told yet
pub short_text-start : (rows : List ℕ) (n mark : ℕ) → n ≤ length rows → Telling (short_text (take n rows)) mark mark [] (short_line (n / 3) ++ lines_text (take n rows))
unfolding short_text
short_text-start rows n mark h =
    left_as (ap (λ (k : ℕ). short_line (k / 3) ++ lines_text (take n rows)) (length-take-le n rows h)) (start _ mark)

-- and their lines by the rows' positions
pub short-start : (rows : List ℕ) (n mark : ℕ) → n ≤ length rows → Telling (short_text (take n rows)) mark mark [] (short_line (n / 3) ++ lines_from rows 0 (n / 3))
short-start rows n mark h = left_as (ap (λ (l : List ℕ). short_line (n / 3) ++ l) (all_lines rows n h)) (short_text-start rows n mark h)
