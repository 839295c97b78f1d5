-- Inside: of the records of an image, by their bytes, which agree; and a number that those which agree have in common.
-- Assumes nothing.
use Rattle.std.specs.Prelude.{◌≡◌, Bool, ◌&&◌, List, ℕ, ◌+◌, ◌*◌, ◌/◌, ◌≤◌, ◌<◌, eqb, length, get_or}
use Rattle.wire.specs.Le.{le}
use Rattle.versions.specs.Version.{limit}
use Rattle.repeats.specs.declared.Subject.{Subject}

-- where the record at a position begins
abbrev pub place : ℕ → ℕ
place i = 8 + 16 * i

-- the high byte of its channel
abbrev pub high_at : List ℕ → ℕ → ℕ
high_at s i = get_or s (place i + 4) 0

-- the low byte of its channel and its class, in one number; the bytes of its latitude and of its longitude
abbrev pub subject_at : List ℕ → ℕ → Subject
subject_at s i = record { kind = le 2 s (place i + 5); north = le 4 s (place i + 8); east = le 4 s (place i + 12) }

-- two records agree in all of these
unfoldable pub agrees : List ℕ → ℕ → ℕ → Bool
agrees s i k =
    let a = subject_at s i in
    let b = subject_at s k in
    eqb a.north b.north && eqb a.east b.east && eqb a.kind b.kind && eqb (high_at s i) (high_at s k)

unfoldable pub number : Subject → ℕ
number r = r.kind * 1697706979 + r.north * 1652984621 + r.east * 1440846997

abbrev pub number_at : List ℕ → ℕ → ℕ
number_at s i = number (subject_at s i)

-- n records stand in the image, and no more than the limit
pub record Holds (s : List ℕ) (n : ℕ) : Type 0 where
  pub room : place n ≤ length s
  pub few : n ≤ limit

-- twice a position of these records
pub record Twice (s : List ℕ) (own : ℕ) : Type 0 where
  pub even : own ≡ 2 * (own / 2)
  pub holds : Holds s (own / 2 + 1)

-- r is what is compared of the record at a position, and another one stands before it
pub record Compares (s : List ℕ) (own other : ℕ) (r : Subject) : Type 0 where
  pub twice : Twice s own
  pub even : other ≡ 2 * (other / 2)
  pub earlier : other / 2 < own / 2
  pub is : r ≡ subject_at s (own / 2)
