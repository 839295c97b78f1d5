-- What is kept of the stations in the way, in the order of their ids, is the station that is named. Assumes nothing.
use Rattle.std.specs.Prelude.{Some, None, MatchOption}
use mathlib.Core.Path.{◌≡◌, refl, ap, ◌∙◌}
use mathlib.Core.Logic.{◌⊎◌, inl, inr, ⊎_elim}
use mathlib.Core.Bool.{Bool, true, false}
use mathlib.Core.List.Memᴰ
use mathlib.Core.List.{List, [], ◌∷◌, ◌++◌, map}
use Prim.Native.Nat.{ℕ, ◌+◌, ◌<◌}
use native.Mathlib.Omega.{arith}
use lib.Dec.{ltb}
use lib.ListN.{length, get_or, take}
use borrow.Author.Tests.{ltb-true, ltb-false}
use Rattle.std.specs.List.{fold, reduce}
use Rattle.std.proofs.lemmas.List.{map_more}
use Rattle.std.proofs.lemmas.List.Sums.{fold_push}
use Rattle.ground.specs.Guard.{given}
use Rattle.ground.specs.Lists.{◌∈◌, keep}
use Rattle.ground.proofs.Order.{ahead, ahead_of, rest_of, ascending_keep}
use Rattle.spacing.specs.Pair.{Assignment}
use Rattle.stations.specs.declared.Station.{Station}
use Rattle.stations.proofs.Ids.{Ascends}
use Rattle.survey.specs.Ways.{near}
use Rattle.neighbours.specs.Neighbours.{neighbour_of, shortfall_of}
use Rattle.neighbours.specs.Inside.{worse_of}
use Rattle.neighbours.specs.declared.Neighbour.{Neighbour}
use Rattle.reasons.specs.Reason.{shortfall}
use Rattle.reasons.specs.Meaning.{Named}
use Rattle.reasons.proofs.Named.{Leads, leads_named}

-- the later one, or the earlier one
worse-later : (a b : Neighbour) → ltb (shortfall_of a) (shortfall_of b) ≡ true → worse_of a b ≡ b
unfolding worse_of given
worse-later a b e = rw e

worse-earlier : (a b : Neighbour) → ltb (shortfall_of a) (shortfall_of b) ≡ false → worse_of a b ≡ a
unfolding worse_of given
worse-earlier a b e = rw e

module _ (km : ℕ → ℕ → ℕ → ℕ) (p : Assignment) where
  abbrev told : Station → Neighbour
  told = neighbour_of km p

  -- one of a station and those after it, before which none of them comes
  record Kept (r : Station) (xs : List Station) : Type 0 where
    who : Station
    stands : who ∈ (r ∷ xs)
    is : fold worse_of (told r) (map told xs) ≡ told who
    leads : (x : Station) → x ∈ (r ∷ xs) → Leads km p who x

  kept_one : (r : Station) (xs : List Station) → Ascends (r ∷ xs) → Kept r xs
  kept_one r [] a =
      record { who = r; stands = Memᴰ.head refl; is = refl; leads = λ x m. ⊎_elim (λ (q : x ≡ r). rw q (record { most = omega arith; first = λ e. omega arith })) (λ (n : x ∈ []). absurd (Memᴰ.not-nil n)) (Memᴰ.cases_cons m) }
  kept_one r (x ∷ xs) a = go (ltb (shortfall km p r) (shortfall km p x)) refl (kept_one x xs (rest_of a)) (kept_one r xs (ahead (λ y m. ahead_of a y (Memᴰ.tail m)) (rest_of (rest_of a))))
    where
      go : (b : Bool) → ltb (shortfall km p r) (shortfall km p x) ≡ b → Kept x xs → Kept r xs → Kept r (x ∷ xs)
      go true e k _ =
          let l = ltb-true (shortfall km p r) (shortfall km p x) e in
          record {
            who = k.who;
            stands = Memᴰ.tail k.stands;
            is = ap (λ (n : Neighbour). fold worse_of n (map told xs)) (worse-later (told r) (told x) e) ∙ k.is;
            leads = λ y m.
                ⊎_elim (λ (q : y ≡ r). let w = k.leads x (Memᴰ.head refl) in rw q (record { most = omega (arith, l, w.most); first = λ z. absurd (omega (arith, l, w.most, z)) }))
                (λ (n : y ∈ (x ∷ xs)). k.leads y n) (Memᴰ.cases_cons m);
          }
      go false e _ k =
          let l = ltb-false (shortfall km p r) (shortfall km p x) e in
          record {
            who = k.who;
            stands = ⊎_elim (λ (q : k.who ≡ r). Memᴰ.head q) (λ (n : k.who ∈ xs). Memᴰ.tail (Memᴰ.tail n)) (Memᴰ.cases_cons k.stands);
            is = ap (λ (n : Neighbour). fold worse_of n (map told xs)) (worse-earlier (told r) (told x) e) ∙ k.is;
            leads = λ y m.
                let w = k.leads r (Memᴰ.head refl) in
                ⊎_elim (λ (q : y ≡ r). rw q w)
                (λ (n : y ∈ (x ∷ xs)). ⊎_elim (λ (q : y ≡ x). rw q (record { most = omega (arith, l, w.most); first = λ z. omega (arith, ahead_of a x (Memᴰ.head refl), w.first (omega (arith, l, w.most, z))) })) (λ (o : y ∈ xs). k.leads y (Memᴰ.tail o)) (Memᴰ.cases_cons n)) (Memᴰ.cases_cons m);
          }

  -- nobody is in the way, and nobody is kept; or the station that is named is
  pub kept-named : (ss : List Station) → Ascends ss → ((keep (near km p) ss ≡ []) × (reduce worse_of (map told (keep (near km p) ss)) ≡ None)) ⊎ ((r : Station) × Named km p ss r × (reduce worse_of (map told (keep (near km p) ss)) ≡ Some (told r)))
  kept-named ss a = go (keep (near km p) ss) refl (ascending_keep (near km p) ss a)
    where
      go : (xs : List Station) → keep (near km p) ss ≡ xs → Ascends xs → ((keep (near km p) ss ≡ []) × (reduce worse_of (map told (keep (near km p) ss)) ≡ None)) ⊎ ((r : Station) × Named km p ss r × (reduce worse_of (map told (keep (near km p) ss)) ≡ Some (told r)))
      go [] e u = inl (e, rw e)
      go (x ∷ xs) e u = let k = kept_one x xs u in inr (k.who, leads_named km p ss k.who (rw e k.stands) (rw e k.leads), rw e (ap Some k.is))

-- ---- a walk over places that hold positions

-- what is kept of the first t, and the one there
pub kept_more : (g : ℕ → Neighbour) (vs : List ℕ) (t : ℕ) (n : Neighbour) → t < length vs
    → MatchOption (reduce worse_of (map g (take t vs))) (n ≡ g (get_or vs t 0)) (λ earlier. n ≡ worse_of earlier (g (get_or vs t 0))) → Some n ≡ reduce worse_of (map g (take (t + 1) vs))
kept_more g vs t n h m = rw (map_more g vs t 0 h) (go (map g (take t vs)) m)
  where
    go : (xs : List Neighbour) → MatchOption (reduce worse_of xs) (n ≡ g (get_or vs t 0)) (λ earlier. n ≡ worse_of earlier (g (get_or vs t 0))) → Some n ≡ reduce worse_of (xs ++ g (get_or vs t 0) ∷ [])
    go [] e = ap Some e
    go (x ∷ xs) e = rw (fold_push worse_of x xs (g (get_or vs t 0))) (ap Some e)
