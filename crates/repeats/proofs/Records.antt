-- Records that agree: what they agree in, and that they have one number. Assumes nothing.
use mathlib.Core.Path.{◌≡◌, refl}
use mathlib.Core.Logic.{◌↔◌}
use mathlib.Core.Bool.{Bool, true, false, ◌&&◌}
use mathlib.Core.List.{List}
use Prim.Native.Nat.{ℕ}
use lib.Dec.{eqb}
use borrow.Author.Tests.{eqb-true, eq-eqb}
use Rattle.ground.proofs.Guards.{and_was}
use Rattle.repeats.specs.declared.Subject.{Subject}
use Rattle.repeats.specs.Records.{high_at, subject_at, agrees, number, number_at}

-- the same by what was read of two records, and whether it is the same
pub agrees_by : (s : List ℕ) (i k : ℕ) {a b : Subject} (t : Bool) → a ≡ subject_at s i → b ≡ subject_at s k
    → t ≡ eqb a.north b.north && (eqb a.east b.east && eqb a.kind b.kind) → (t && eqb (high_at s i) (high_at s k)) ≡ agrees s i k
unfolding agrees
agrees_by s i k {a} {b} t e f g =
    let x = subject_at s i in
    let y = subject_at s k in
    rw (g, e, f) (regroup (eqb x.north y.north) (eqb x.east y.east) (eqb x.kind y.kind) (eqb (high_at s i) (high_at s k)))
  where
    regroup : (x y z w : Bool) → (x && (y && z)) && w ≡ x && y && z && w
    regroup true y z w = refl
    regroup false y z w = refl

-- what two records agree in
pub record Agreed (s : List ℕ) (i k : ℕ) : Type 0 where
  pub north : (subject_at s i).north ≡ (subject_at s k).north
  pub east : (subject_at s i).east ≡ (subject_at s k).east
  pub kind : (subject_at s i).kind ≡ (subject_at s k).kind
  pub high : high_at s i ≡ high_at s k

module _ (s : List ℕ) (i k : ℕ) where
  pub agree_is : (agrees s i k ≡ true) ↔ Agreed s i k
  unfolding agrees
  agree_is =
      let a = subject_at s i in
      let b = subject_at s k in
      let n = eqb a.north b.north in
      let e = eqb a.east b.east in (
        λ t.
            let x = and_was (n && e && eqb a.kind b.kind) (eqb (high_at s i) (high_at s k)) t in
            let y = and_was (n && e) (eqb a.kind b.kind) x.0 in
            let z = and_was n e y.0 in
            record { north = eqb-true _ _ z.0; east = eqb-true _ _ z.1; kind = eqb-true _ _ y.1; high = eqb-true _ _ x.1 },
        λ w. rw (eq-eqb _ _ w.north, eq-eqb _ _ w.east, eq-eqb _ _ w.kind, eq-eqb _ _ w.high),
      )

  pub common : agrees s i k ≡ true → number_at s i ≡ number_at s k
  unfolding number
  common e = let w = agree_is.0 e in rw (w.north, w.east, w.kind)
