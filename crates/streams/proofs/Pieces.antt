-- A text that is told in pieces. Assumes nothing.
use Rattle.std.proofs.Common.{◌≡◌, ℕ, ◌+◌, ◌%◌, ◌^◌, List, [], ◌++◌, length, sym, refl, ap, ◌∙◌, subst, append_assoc, append-nil, add-zero, add_assoc, length-append}
use Rattle.std.specs.Prelude.{Result, Err, IsOk}
use native.Mathlib.Nat.{mod-add-mod}
use Rattle.seal.specs.Seal.{Handed}
use Rattle.streams.specs.Pieces.{Telling}
use Rattle.streams.specs.Tells.{Failed, Tells}
use Rattle.streams.specs.declared.Unwritten.{Unwritten}

abbrev Handing : Type 0
Handing = Result (Unit {0}) Unwritten

-- between a mark and itself nothing was handed over
nothing : (n : ℕ) → Handed n [] n
unfolding Handed
nothing n = ap (λ (k : ℕ). k % 2 ^ 64) (sym (add-zero n))

-- one text after the other
joined : (u v : List ℕ) (a b c : ℕ) → Handed a u b → Handed b v c → Handed a (u ++ v) c
unfolding Handed
joined u v a b c h k =
    k
    ∙ sym (mod-add-mod b (2 ^ 64) (length v))
    ∙ ap (λ (n : ℕ). (n + length v) % 2 ^ 64) h
    ∙ mod-add-mod (a + length u) (2 ^ 64) (length v)
    ∙ ap (λ (n : ℕ). n % 2 ^ 64) (add_assoc a (length u) (length v) ∙ ap (λ (n : ℕ). a + n) (sym (length-append u v)))

-- the same text
pub tells_as : {u v : List ℕ} {a b : ℕ} {r : Handing} → u ≡ v → Tells u a b r → Tells v a b r
tells_as {a} {b} {r} e t = subst (λ (l : List ℕ). Tells l a b r) e t

-- nothing was handed over yet
pub start : (text : List ℕ) (n : ℕ) → Telling text n n [] text
start text n = record { done = []; handed = nothing n; parts = refl }

-- what comes next is put behind what waits
pub put : {text waits : List ℕ} {a b : ℕ} (u left : List ℕ) {waits' : List ℕ} → Telling text a b waits (u ++ left) → waits' ≡ waits ++ u → Telling text a b waits' left
put {text} {waits} u left {waits'} t e =
    record {
      done = t.done;
      handed = t.handed;
      parts = ap (λ (l : List ℕ). t.done ++ (l ++ left)) e ∙ ap (λ (l : List ℕ). t.done ++ l) (append_assoc waits u left) ∙ t.parts;
    }

-- another name for what is left
pub left_as : {text waits left left' : List ℕ} {a b : ℕ} → left ≡ left' → Telling text a b waits left → Telling text a b waits left'
left_as {text} {waits} {a} {b} e t = subst (λ (l : List ℕ). Telling text a b waits l) e t

-- what waits is handed over
pub piece : {text waits left : List ℕ} {a b c : ℕ} {r : Handing} → Telling text a b waits left → Tells waits b c r → IsOk r → Telling text a c [] left
piece {text} {waits} {left} t w e =
    record { done = t.done ++ waits; handed = joined t.done waits _ _ _ t.handed (w.told e); parts = append_assoc t.done waits left ∙ t.parts }

-- the last piece
pub end : {text waits : List ℕ} {a b c : ℕ} {r : Handing} → Telling text a b waits [] → Tells waits b c r → Tells text a c r
end {a} {c} t w =
    record {
      told = λ e. let s = piece t w e in subst (λ (l : List ℕ). Handed a l c) (sym (append-nil s.done) ∙ s.parts) s.handed;
      failed = w.failed;
    }

-- a write failed
pub broken : {text : List ℕ} {a b : ℕ} {e : Unwritten} → Failed → Tells text a b (Err e)
broken f = record { told = λ ok. absurd (cc); failed = λ err. f }
