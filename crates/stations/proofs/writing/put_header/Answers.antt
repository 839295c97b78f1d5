use mathlib.Core.Path.{◌≡◌, ◌∙◌, refl, sym, ap}
use mathlib.Core.List.{List, ◌∷◌}
use Prim.Native.Nat.{ℕ}
use lib.ListN.{set}
use lib.Seq.{sets}
use Rattle.ground.proofs.Writes.{sets_append}
use Rattle.wire.specs.Be.{bytes, put}
use Rattle.wire.proofs.Width.{length-bytes}
use Rattle.stations.specs.Encode.{header_of}
use Rattle.stations.proofs.writing.put_header.Goals as goal
use Rattle.stations.proofs.writing.put_header.Goals.{After-put, After-put-2}

-- the stores one after the other are those of the header
stores : (l : List ℕ) (v n : ℕ) → put 2 (set (put 2 (set (set (set l 0 70) 1 77) 2 83) 3 v) 5 0) 6 n ≡ sets l 0 (header_of v n)
unfolding put header_of
stores l v n = sym (rw (sets_append (bytes 2 v) (0 ∷ bytes 2 n) _ 3, length-bytes) refl)

written : (c : After-put-2) →
    let s = c.args in
    c.put-2.new.s ≡ sets s.image.now 0 (header_of s.version s.n)
written c = let s = c.args in
    c.put-2.ensures
    ∙ ap (λ (l : List ℕ). put 2 (set l 5 0) 6 s.n) c.put.ensures
    ∙ stores s.image.now s.version s.n

pub returns : goal.returns
returns c = written (goal.at.returns c).After-put-2
