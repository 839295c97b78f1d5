-- The station that is named: the definition says what the owner asks, and it names one station at most. Assumes nothing.
use mathlib.Core.Path.{◌≡◌, refl, sym}
use mathlib.Core.Logic.{◌↔◌, ⊎_elim}
use mathlib.Core.Bool.{Bool, true, false, ◌&&◌, ◌||◌}
use mathlib.Core.List.Memᴰ
use mathlib.Core.List.{List, [], ◌∷◌}
use Prim.Native.Nat.{ℕ, ◌≤◌}
use native.Mathlib.Omega.{arith}
use lib.Dec.{ltb, leb, eqb}
use borrow.Author.Tests.{ltb-true, ltb-false, eqb-true, eq-eqb, leb-true, le-leb}
use Rattle.ground.specs.Lists.{◌∈◌, keep, every}
use Rattle.ground.proofs.Guards.{and_was, and_both}
use Rattle.ground.proofs.Order.{in_keep, none, ahead, ascending_keep, strict_by, one_ascending}
use Rattle.ground.proofs.Keeps.{every_in}
use Rattle.spacing.specs.Pair.{Assignment}
use Rattle.stations.specs.declared.Station.{Station}
use Rattle.stations.proofs.Ids.{Ascends, one_id}
use Rattle.survey.specs.Ways.{near}
use Rattle.checks.specs.Meaning.{Short}
use Rattle.checks.proofs.Meaning.{near-short}
use Rattle.reasons.specs.Reason.{shortfall, yields, worst}
use Rattle.reasons.specs.Meaning.{Named}

-- a larger number, or an equal one and an id that is not higher
ranks : (mine theirs me other : ℕ) → ((ltb theirs mine || (eqb theirs mine && leb me other)) ≡ true) ↔ ((theirs ≤ mine) × (theirs ≡ mine → me ≤ other))
ranks mine theirs me other = (to (ltb theirs mine) refl, from (ltb theirs mine) refl)
  where
    to : (b : Bool) → ltb theirs mine ≡ b → (b || (eqb theirs mine && leb me other)) ≡ true → (theirs ≤ mine) × (theirs ≡ mine → me ≤ other)
    to true l e = let h = ltb-true theirs mine l in (omega (arith, h), λ q. absurd (omega (arith, h, q)))
    to false l e =
        let w = and_was (eqb theirs mine) (leb me other) e in
        (omega (arith, eqb-true theirs mine w.0), λ q. leb-true me other w.1)

    from : (b : Bool) → ltb theirs mine ≡ b → (theirs ≤ mine) × (theirs ≡ mine → me ≤ other) → (b || (eqb theirs mine && leb me other)) ≡ true
    from true l w = refl
    from false l w =
        let q : theirs ≡ mine = omega (arith, ltb-false theirs mine l, w.0) in
        and_both (eqb theirs mine) (leb me other) (eq-eqb theirs mine q) (le-leb me other (w.1 q))

module _ (km : ℕ → ℕ → ℕ → ℕ) (p : Assignment) where
  -- another does not come before r
  pub record Leads (r other : Station) : Type 0 where
    pub most : shortfall km p other ≤ shortfall km p r
    pub first : shortfall km p other ≡ shortfall km p r → r.id ≤ other.id

  yields_is : (r other : Station) → (yields km p r other ≡ true) ↔ Leads r other
  yields_is r other =
      let w = ranks (shortfall km p r) (shortfall km p other) r.id other.id in
      (λ e. record { most = (w.0 e).0; first = (w.0 e).1 }, λ l. w.1 (l.most, l.first))

  module _ (ss : List Station) where
    -- the stations in the way
    in_way : (x : Station) → (x ∈ keep (near km p) ss) ↔ ((x ∈ ss) × Short km p x)
    in_way x =
        let k = in_keep {x = x} (near km p) ss in
        (λ m. ((k.0 m).0, (near-short km p x).0 (k.0 m).1), λ m. k.1 (m.0, (near-short km p x).1 m.1))

    -- one of these that comes before all of them is named
    pub leads_named : (r : Station) → r ∈ keep (near km p) ss → ((x : Station) → x ∈ keep (near km p) ss → Leads r x) → Named km p ss r
    leads_named r m h =
        let w = (in_way r).0 m in
        record {
          stands = w.0;
          short = w.1;
          largest = λ x i s. (h x ((in_way x).1 (i, s))).most;
          lowest = λ x i s e. (h x ((in_way x).1 (i, s))).first e;
        }

    -- the definition names exactly those
    pub named_is : (r : Station) → (r ∈ worst km p ss) ↔ Named km p ss r
    unfolding worst
    named_is r =
        let k = in_keep {x = r} (λ (y : Station). every (yields km p y) (keep (near km p) ss)) (keep (near km p) ss) in (
          λ m. let w = k.0 m in leads_named r w.0 (λ x n. (yields_is r x).0 ((every_in (yields km p r) (keep (near km p) ss)).0 w.1 x n)),
          λ n. k.1 ((in_way r).1 (n.stands, n.short), (every_in (yields km p r) (keep (near km p) ss)).1 (λ x m. let w = (in_way x).0 m in (yields_is r x).1 (record { most = n.largest x w.0 w.1; first = n.lowest x w.0 w.1 }))),
        )

    module _ (ids : Ascends ss) where
      -- there is one at most
      pub one_named : (r r' : Station) → Named km p ss r → Named km p ss r' → r ≡ r'
      one_named r r' n n' =
          let e : shortfall km p r ≡ shortfall km p r' = omega (arith, n.largest r' n'.stands n'.short, n'.largest r n.stands n.short) in
          let q : r'.id ≡ r.id = omega (arith, n.lowest r' n'.stands n'.short (sym e), n'.lowest r n.stands n.short e) in
          one_id r.id r r' ss ids refl q n.stands n'.stands

      worst_ascends : Ascends (worst km p ss)
      unfolding worst
      worst_ascends = ascending_keep _ (keep (near km p) ss) (ascending_keep (near km p) ss ids)

      -- and then the list has that one alone
      pub worst_one : (r : Station) → Named km p ss r → worst km p ss ≡ r ∷ []
      worst_one r n =
          one_ascending (strict_by (λ (x : Station). x.id)) (worst km p ss) (r ∷ []) worst_ascends (ahead (λ y m. absurd (Memᴰ.not-nil m)) none)
          (λ x. (λ m. rw (one_named x r ((named_is x).0 m) n) (Memᴰ.head refl), λ m. ⊎_elim (λ (q : x ≡ r). rw q ((named_is r).1 n)) (λ (m' : x ∈ []). absurd (Memᴰ.not-nil m')) (Memᴰ.cases_cons m)))
