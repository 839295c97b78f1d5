use mathlib.Core.Path.{◌≡◌, ◌∙◌, refl, sym, ap}
use mathlib.Core.List.{List, ◌∷◌}
use Prim.Native.Nat.{ℕ, suc, ◌+◌}
use native.Mathlib.Omega.{arith}
use lib.ListN.{set}
use lib.Seq.{sets}
use mir.Syntax.{w32}
use mir.Val.{of_z, to_z}
use mir.ValLaws.{to_z-of_z}
use Rattle.ground.proofs.Writes.{sets_append}
use Rattle.wire.specs.Be.{bytes, put}
use Rattle.wire.proofs.Width.{length-bytes}
use Rattle.stations.specs.Encode.{record_of}
use Rattle.stations.specs.declared.Station.{Station}
use borrow.Author.Rules.{rules}
use Rattle.stations.proofs.writing.put_station.Goals as goal
use Rattle.stations.proofs.writing.put_station.Goals.{After-put-3, After-put-4}

-- the class and the flags
pair : (l : List ℕ) (at a b : ℕ) (vs : List ℕ) → sets l (at + 6) (a ∷ b ∷ vs) ≡ sets (set (set l (at + 6) a) (at + 7) b) (at + 8) vs
pair l at a b vs =
    let e : suc (at + 6) ≡ at + 7 = omega arith in
    let f : suc (at + 7) ≡ at + 8 = omega arith in
    ap (λ (k : ℕ). sets (set (set l (at + 6) a) k b) (suc k) vs) e ∙ ap (λ (k : ℕ). sets (set (set l (at + 6) a) (at + 7) b) k vs) f

-- the stores one after the other are those of the record
stores : (l : List ℕ) (at : ℕ) (r : Station) →
    put 4 (put 4 (set (set (put 2 (put 4 l at r.id) (at + 4) r.channel) (at + 6) r.class) (at + 7) r.flags) (at + 8) (of_z w32 r.latitude)) (at + 12) (of_z w32 r.longitude)
    ≡ sets l at (record_of r)
unfolding put record_of
stores l at r =
    let a : at + 4 + 2 ≡ at + 6 = omega arith in
    let b : at + 8 + 4 ≡ at + 12 = omega arith in
    sym (rw (sets_append (bytes 4 r.id), length-bytes, sets_append (bytes 2 r.channel), length-bytes, a, pair, sets_append (bytes 4 (of_z w32 r.latitude)), length-bytes, b) refl)

written : (c : After-put-4) →
    let s = c.args in
    c.put-4.new.s ≡ sets s.image.now s.at (record_of s.r)
written c = let s = c.args in
    let z4 : of_z w32 (to_z w32 (of_z w32 s.r.latitude)) ≡ of_z w32 s.r.latitude = ap (of_z w32) (to_z-of_z w32 s.r.latitude (search rules)) in
    let z5 : of_z w32 (to_z w32 (of_z w32 s.r.longitude)) ≡ of_z w32 s.r.longitude = ap (of_z w32) (to_z-of_z w32 s.r.longitude (search rules)) in
    c.put-4.ensures
    ∙ ap (put 4 _ _) z5
    ∙ ap (λ (l : List ℕ). put 4 l (s.at + 12) (of_z w32 s.r.longitude)) (c.put-3.ensures ∙ ap (put 4 _ _) z4)
    ∙ ap (λ (l : List ℕ). put 4 (put 4 (set (set l (s.at + 6) s.r.class) (s.at + 7) s.r.flags) (s.at + 8) (of_z w32 s.r.latitude)) (s.at + 12) (of_z w32 s.r.longitude))
    (c.put-2.ensures ∙ ap (λ (l : List ℕ). put 2 l (s.at + 4) s.r.channel) c.put.ensures)
    ∙ stores s.image.now s.at s.r

pub returns : goal.returns
returns c = written (goal.at.returns c).After-put-4
