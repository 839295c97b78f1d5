-- The stations that are studied, by their positions in the table: the definitions go over the list, the code over the
-- positions. For any `look` and any table of separations. Assumes nothing.
use Rattle.std.specs.Prelude.{Ok}
use mathlib.Core.Path.{◌≡◌, refl, ap, ◌∙◌}
use mathlib.Core.Bool.{Bool, true, false, cond, not, ◌&&◌, ◌||◌}
use mathlib.Core.List.{List, [], map}
use mathlib.Core.Logic.{◌↔◌}
use Prim.Native.Nat.{ℕ, ◌<◌}
use native.Mathlib.Omega.{arith}
use native.Mathlib.Decide.{ℕ_discrete, dec_lt}
use lib.Dec.{eqb}
use borrow.Author.Tests.{eq-eqb, ne_eqb, eqb-false, not-true}
use Rattle.ground.specs.Lists.{◌∈◌, span, build, keep, every, each}
use Rattle.ground.proofs.Order.{in_keep, in_span, Ascending, By, ascending_keep}
use Rattle.ground.proofs.Keeps.{keep-map, every_map, each_map, build-span, keep-keep, every-keep, each_keep, keep_all, every_cong}
use Rattle.spacing.specs.Pair.{Assignment}
use Rattle.stations.specs.Image.{station_at, stations, judged}
use Rattle.stations.specs.Lists.{has_id, without}
use Rattle.stations.specs.declared.Station.{Station}
use Rattle.stations.proofs.Whole.{whole}
use Rattle.stations.proofs.Places.{ids_ascend, ascends_at}
use Rattle.stations.proofs.Fine.{good}
use Rattle.survey.specs.Ways.{looked, studied, near, clear}
use Rattle.survey.specs.Walking.{blocks}
use Rattle.survey.specs.declared.Terms.{Terms}

nobody : (l h : Bool) → (not l || not h) ≡ not (l && h)
nobody true h = refl
nobody false h = refl

nobody_but : (a l h : Bool) → (not l || (not (not a) || not h)) ≡ (a || not (l && h))
nobody_but true true h = refl
nobody_but true false h = refl
nobody_but false true h = refl
nobody_but false false h = refl

-- studied are exactly those that do not have the id left aside
pub studied_exactly : (t : Terms) (ss : List Station) (x : Station) → (x ∈ studied t ss) ↔ ((x ∈ ss) × (x.id ≡ t.aside → ⊥))
unfolding studied looked
studied_exactly t ss x =
    let k = in_keep {x = x} (looked t) ss in
    (λ m. ((k.0 m).0, eqb-false x.id t.aside (not-true _ (k.0 m).1)), λ m. k.1 (m.0, rw (ne_eqb x.id t.aside m.1)))

-- they are those of the table without the record left aside
pub studied-without : (t : Terms) (ss : List Station) → studied t ss ≡ without t.aside ss
unfolding studied looked without
studied-without t ss = refl

module _ (s : List ℕ) (n : ℕ) (e : judged s ≡ Ok n) where
  pub stations_at : stations s ≡ map (station_at s) (span 0 n)
  unfolding stations
  stations_at = ap (λ (k : ℕ). build k (station_at s)) (whole s n e).counted ∙ build-span n (station_at s)

  -- the ids of those that are studied ascend
  pub studied_ascend : (t : Terms) → Ascending (By (λ r. r.id)) (studied t (stations s))
  unfolding studied
  studied_ascend t = ascending_keep (looked t) (stations s) (ids_ascend s n e)

  -- each is of one of the eight classes
  pub studied-known : (t : Terms) (x : Station) → x ∈ studied t (stations s) → x.class < 8
  studied-known t x m = omega (arith, ((good s n e).each x ((studied_exactly t (stations s) x).0 m).0).class)

  -- with the id 0 they are all, for no record has it
  pub studied_whole : (t : Terms) → t.aside ≡ 0 → studied t (stations s) ≡ stations s
  unfolding studied looked
  studied_whole t z = keep_all (looked t) (stations s) (λ x m. rw (ne_eqb x.id t.aside (λ q. omega (arith, q, z, ((good s n e).each x m).counts))))

  -- an id stands at one position only
  pub same_id : (i j : ℕ) → i < n → j < n → eqb (station_at s j).id (station_at s i).id ≡ eqb j i
  same_id i j h k = go (ℕ_discrete j i) (dec_lt j i)
    where
      go : Dec (j ≡ i) → Dec (j < i) → eqb (station_at s j).id (station_at s i).id ≡ eqb j i
      go (yes q) d = rw (eq-eqb j i q, eq-eqb (station_at s j).id (station_at s i).id (ap (λ (x : ℕ). (station_at s x).id) q))
      go (no ne) (yes l) = rw (ne_eqb j i ne) (ne_eqb (station_at s j).id (station_at s i).id (λ q. omega (arith, ascends_at s n e j i l h)))
      go (no ne) (no m) = rw (ne_eqb j i ne) (ne_eqb (station_at s j).id (station_at s i).id (λ q. omega (arith, ascends_at s n e i j (omega arith) k)))

  module _ (look : Station → Bool) where
    pub keep_at : (p : Station → Bool) → keep p (keep look (stations s)) ≡ map (station_at s) (keep (λ j. look (station_at s j) && p (station_at s j)) (span 0 n))
    keep_at p = keep-keep look p (stations s) ∙ (ap (keep (λ x. look x && p x)) stations_at ∙ keep-map (station_at s) (λ x. look x && p x) (span 0 n))

    pub every_at : (p : Station → Bool) → every p (keep look (stations s)) ≡ every (λ j. not (look (station_at s j)) || p (station_at s j)) (span 0 n)
    every_at p = every-keep look p (stations s) ∙ (ap (every (λ x. not (look x) || p x)) stations_at ∙ every_map (station_at s) (λ x. not (look x) || p x) (span 0 n))

    pub each_at : {B : Type 0} (g : Station → List B) → each g (keep look (stations s)) ≡ each (λ j. cond (look (station_at s j)) (g (station_at s j)) []) (span 0 n)
    each_at g = each_keep look g (stations s) ∙ (ap (each (λ x. cond (look x) (g x) [])) stations_at ∙ each_map (station_at s) (λ x. cond (look x) (g x) []) (span 0 n))

    module _ (km : ℕ → ℕ → ℕ → ℕ) (p : Assignment) where
      -- p is short to nobody
      pub clear_at : clear km p (keep look (stations s)) ≡ every (λ j. not (blocks km look s p j)) (span 0 n)
      unfolding clear blocks
      clear_at = every_at (λ r. not (near km p r)) ∙ every_cong _ _ (span 0 n) (λ j m. nobody (look (station_at s j)) (near km p (station_at s j)))

      -- to nobody but perhaps the one at i
      pub but_at : (i : ℕ) → i < n → clear km p (without (station_at s i).id (keep look (stations s))) ≡ every (λ j. eqb j i || not (blocks km look s p j)) (span 0 n)
      unfolding clear without blocks
      but_at i h =
          every-keep (λ x. not (has_id (station_at s i).id x)) (λ r. not (near km p r)) (keep look (stations s))
          ∙ (every_at (λ x. not (not (has_id (station_at s i).id x)) || not (near km p x))
          ∙ every_cong _ _ (span 0 n) (λ j m. rw (same_id i j h (omega (arith, ((in_span j n 0).0 m).1))) (nobody_but (eqb j i) (look (station_at s j)) (near km p (station_at s j)))))
