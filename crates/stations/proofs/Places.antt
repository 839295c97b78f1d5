-- Where an id stands in an accepted table, or would stand: its ids ascend strictly. Assumes nothing.
use Rattle.std.specs.Prelude.{Ok}
use mathlib.Core.Path.{◌≡◌, refl, sym, ◌∙◌}
use mathlib.Core.Bool.{Bool, true, false}
use mathlib.Core.List.{List}
use Prim.Native.Nat.{ℕ, ◌≤◌, ◌<◌}
use native.Mathlib.Omega.{arith}
use native.Mathlib.Decide.{dec_lt}
use lib.ListN.{length}
use borrow.Author.Tests.{eq-eqb, eqb-true, leb-true, leb-false, ltb-true}
use Rattle.ground.specs.Lists.{some, first}
use Rattle.ground.proofs.Firsts.{first_le, first_found, first_past, some_first, some_at}
use Rattle.ground.proofs.Positions.{ascending_at}
use Rattle.stations.specs.Image.{station_at, stations, judged}
use Rattle.stations.specs.Lists.{has_id, from_id}
use Rattle.stations.proofs.Whole.{whole, next, length-stations}
use Rattle.stations.proofs.Ids.{Ascends, first_id}
use Rattle.stations.proofs.Fine.{good}

module _ (s : List ℕ) (n : ℕ) (e : judged s ≡ Ok n) where
  pub ids_ascend : Ascends (stations s)
  ids_ascend = (good s n e).ascends

  pub ascends_at : (i j : ℕ) → i < j → j < n → (station_at s i).id < (station_at s j).id
  ascends_at i j l h =
      let w = whole s n e in
      ascending_at (stations s) i j _ _ ids_ascend l (next w i (omega arith)) (next w j h)

module _ (s : List ℕ) (n : ℕ) (e : judged s ≡ Ok n) (id : ℕ) where
  -- the position of the first record whose id is not below
  abbrev pub place : ℕ
  place = first (from_id id) (stations s)

  pub place-le : place ≤ n
  place-le = omega (arith, first_le (from_id id) (stations s), length-stations (whole s n e))

  at_place : place < n → id ≤ (station_at s place).id
  at_place h = leb-true id (station_at s place).id (first_found (from_id id) (stations s) (station_at s place) _ (next (whole s n e) place h))

  -- a record with an id below stands before it
  pub below : (i : ℕ) → i < n → (station_at s i).id < id → i < place
  below i h l = go (dec_lt i place) (dec_lt place i)
    where
      go : Dec (i < place) → Dec (place < i) → i < place
      go (yes k) d = k
      go (no k) (yes m) = absurd (omega (arith, at_place (omega arith), ascends_at s n e place i m h))
      go (no k) (no m) =
          let q : place ≡ i = omega arith in
          let a : id ≤ (station_at s i).id = rw q at (at_place (omega arith)) in
          absurd (omega arith)

  -- any other does not
  pub not_below : (i : ℕ) → i < n → id ≤ (station_at s i).id → place ≤ i
  not_below i h l = go (dec_lt i place)
    where
      go : Dec (i < place) → place ≤ i
      go (yes k) = absurd (omega (arith, leb-false id (station_at s i).id (first_past (from_id id) (stations s) i (station_at s i) _ (next (whole s n e) i h) k)))
      go (no k) = omega arith

  -- a record there with the id is one of the list
  pub present : place < n → (station_at s place).id ≡ id → some (has_id id) (stations s) ≡ true
  present h q = some_at (has_id id) (stations s) place (station_at s place) _ (next (whole s n e) place h) (eq-eqb (station_at s place).id id q)

  -- and one of the list is there
  pub present_first : some (has_id id) (stations s) ≡ true → first (has_id id) (stations s) ≡ place
  present_first h = first_id id (stations s) (ids_ascend s n e) h

  pub present-place : some (has_id id) (stations s) ≡ true → (place < n) × ((station_at s place).id ≡ id)
  present-place h =
      let w = whole s n e in
      let q = present_first h in
      let k = first (has_id id) (stations s) in
      let l : k < n = omega (arith, ltb-true k (length (stations s)) (sym (some_first (has_id id) (stations s)) ∙ h), length-stations w) in
      let f : (station_at s k).id ≡ id = eqb-true _ _ (first_found (has_id id) (stations s) (station_at s k) _ (next w k l)) in
      (omega arith, rw q at f)

  -- no such record
  pub absent : (place < n → (station_at s place).id ≡ id → ⊥) → some (has_id id) (stations s) ≡ false
  absent out = go (some (has_id id) (stations s)) refl
    where
      go : (b : Bool) → some (has_id id) (stations s) ≡ b → some (has_id id) (stations s) ≡ false
      go true h = let p = present-place h in absurd (out p.0 p.1)
      go false h = h

-- the record at a position is the first that has its id
pub first_own : (s : List ℕ) (n : ℕ) (e : judged s ≡ Ok n) (p : ℕ) → p < n → first (has_id (station_at s p).id) (stations s) ≡ p
first_own s n e p h =
    let id = (station_at s p).id in
    let there = some_at (has_id id) (stations s) p (station_at s p) _ (next (whole s n e) p h) (eq-eqb id id refl) in
    let up : place s n e id ≤ p = not_below s n e id p h (omega arith) in
    present_first s n e id there ∙ go (dec_lt (place s n e id) p) up
  where
    go : Dec (place s n e (station_at s p).id < p) → place s n e (station_at s p).id ≤ p → place s n e (station_at s p).id ≡ p
    go (yes l) up = absurd (omega (arith, at_place s n e (station_at s p).id (omega arith), ascends_at s n e (place s n e (station_at s p).id) p l h))
    go (no l) up = omega arith
