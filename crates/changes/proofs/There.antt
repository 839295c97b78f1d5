-- What is known of the answers that a change goes by: where an id stands, which record stands in the way, which channel may be asked for.
-- Assumes nothing.
use Rattle.std.specs.Prelude.{Ok, Err, Some, None}
use mathlib.Core.Path.{◌≡◌, sym, ap, ◌∙◌}
use mathlib.Core.Bool.{Bool, true, false}
use mathlib.Core.List.{List}
use Prim.Native.Nat.{ℕ, ◌≤◌, ◌<◌}
use native.Mathlib.Omega.{arith}
use lib.Dec.{leb, ltb}
use lib.ListN.{length}
use borrow.Author.Tests.{ltb-true, ltb-false}
use Rattle.ground.specs.Lists.{some, first}
use Rattle.ground.proofs.Firsts.{some_first}
use Rattle.ground.proofs.Guards.{past, taken, or_was}
use Rattle.ground.proofs.Positions.{in_at}
use Rattle.versions.specs.Version.{limit}
use Rattle.versions.proofs.Versions.{limit_small}
use Rattle.stations.specs.Image.{station_at, stations, count, Accepted}
use Rattle.stations.specs.Lists.{has_id, from_id, with_id}
use Rattle.stations.specs.declared.Station.{Station}
use Rattle.stations.proofs.Ids.{with_one}
use Rattle.stations.proofs.Whole.{whole, next, length-stations}
use Rattle.stations.proofs.Places.{ids_ascend, present-place, present_first}
use Rattle.desk.specs.Asked.{outside}
use Rattle.finding.specs.Asking.{found_at, first_of}

-- a channel that may be asked for
pub inside : (channel : ℕ) → outside channel ≡ false → (221 ≤ channel) × (channel ≤ 300)
inside channel e = let w = or_was (ltb channel 221) (ltb 300 channel) e in (ltb-false channel 221 w.0, ltb-false 300 channel w.1)

-- ---- in any list

module _ (ss : List Station) where
  pub is_there : (id p : ℕ) → found_at id ss ≡ Ok p → (some (has_id id) ss ≡ true) × (first (has_id id) ss ≡ p)
  unfolding found_at
  is_there id p e = let t = taken _ _ _ _ e (λ z. cc) in (t.0, let q = t.1 in cc)

  pub is_absent : (id p : ℕ) → found_at id ss ≡ Err p → (some (has_id id) ss ≡ false) × (first (from_id id) ss ≡ p)
  unfolding found_at
  is_absent id p e = let t = past _ _ _ _ e (λ z. cc) in (t.0, let q = t.1 in cc)

  pub is_one : (test : Station → Bool) (q : ℕ) → first_of test ss ≡ Some q → (some test ss ≡ true) × (first test ss ≡ q)
  unfolding first_of
  is_one test q e = let t = taken _ _ _ _ e (λ z. cc) in (t.0, let q = t.1 in cc)

  pub is_none : (test : Station → Bool) → first_of test ss ≡ None → some test ss ≡ false
  unfolding first_of
  is_none test e = (past _ _ _ _ e (λ z. cc)).0

-- ---- in an accepted table

module _ (s : List ℕ) (e : Accepted s) where
  -- the count, and so every position, fits 16 bits
  pub count_small : count s < 65536
  count_small = omega (arith, (whole s (count s) e).few, limit_small)

  -- whether the list is full
  pub full_is : (n : ℕ) (b : Bool) → n ≡ count s → b ≡ leb limit n → leb limit (length (stations s)) ≡ b
  full_is n b m f = sym (f ∙ ap (leb limit) (m ∙ sym (length-stations (whole s (count s) e))))

  -- a position that was found
  pub one_within : (test : Station → Bool) (q : ℕ) → first_of test (stations s) ≡ Some q → q < count s
  one_within test q f =
      let t = is_one _ _ _ f in
      omega (arith, t.1, length-stations (whole s (count s) e), ltb-true (first test (stations s)) _ (sym (some_first test (stations s)) ∙ t.0))

  module _ (id p : ℕ) (f : found_at id (stations s) ≡ Ok p) where
    place : p ≡ first (from_id id) (stations s)
    place = let t = is_there _ _ _ f in sym t.1 ∙ present_first s (count s) e id t.0

    pub within : p < count s
    within = omega (arith, place, (present-place s (count s) e id (is_there _ _ _ f).0).0)

    pub own_id : (station_at s p).id ≡ id
    own_id = rw place (present-place s (count s) e id (is_there _ _ _ f).0).1

    -- the record there is the one that has it
    pub with_at : {A : Type 0} (none : A) (one : Station → A) → with_id id (stations s) none one ≡ one (station_at s p)
    with_at none one = with_one id none one (station_at s p) (stations s) (ids_ascend s (count s) e) own_id (in_at (stations s) p _ (next (whole s (count s) e) p within))
