-- The three changed lists, cut at the place of the change. Assumes nothing.
use mathlib.Core.Path.{◌≡◌, sym, ap, ◌∙◌}
use mathlib.Core.List.{List, [], ◌∷◌, ◌++◌}
use Prim.Native.Nat.{ℕ, ◌+◌, ◌<◌}
use native.Mathlib.Numerals.{add-one}
use native.Mathlib.Omega.{arith}
use lib.ListN.{take, drop}
use Rattle.stations.specs.Image.{station_at, stations, count, Accepted}
use Rattle.stations.specs.Lists.{onto, insert, without, rechannel}
use Rattle.stations.specs.declared.Station.{Station}
use Rattle.stations.proofs.Changed.{insert_cut, without_cut, rechannel_cut}
use Rattle.stations.proofs.Whole.{whole, next}
use Rattle.stations.proofs.Places.{ids_ascend, place-le, first_own}
use Rattle.granting.specs.Written.{Adds, Moves, Splices, spliced}

module _ (s : List ℕ) (e : Accepted s) {p : ℕ} where
  pub inserts : {r : Station} → Adds s p r → Splices s p p 1
  inserts {r} a =
      let h = place-le s (count s) e r.id in
      record { accepted = e; front = omega (arith, a.place); back = omega (arith, a.place); few = omega (arith, a.place, a.room) }

  pub insert_is : {r : Station} → Adds s p r → insert r (stations s) ≡ spliced p p (r ∷ []) (stations s)
  insert_is {r} a = rw a.place (insert_cut r (stations s) a.new)

  -- k records in place of one, k at most one
  pub replaces : (k : ℕ) → p < count s → k < 2 → Splices s p (p + 1) k
  replaces k h l = record { accepted = e; front = omega arith; back = omega arith; few = omega (arith, (whole s (count s) e).few) }

  pub without_is : p < count s → without (station_at s p).id (stations s) ≡ spliced p (p + 1) [] (stations s)
  without_is h = without_cut (station_at s p).id (stations s) (ids_ascend s (count s) e) ∙ rw (first_own s (count s) e p h, add-one)

  pub move_is : {r : Station} → Moves s p r → rechannel r.id r.channel (stations s) ≡ spliced p (p + 1) (r ∷ []) (stations s)
  move_is {r} a =
      let ss = stations s in
      let x = station_at s p in
      let own : r.id ≡ x.id = ap (λ (y : Station). y.id) a.same in
      let f = first_own s (count s) e p a.within in
      let moved : rechannel x.id r.channel ss ≡ take p ss ++ (onto r.channel x ∷ drop (p + 1) ss) =
      rechannel_cut x.id r.channel ss x (drop (p + 1) ss) (ids_ascend s (count s) e) (rw f (next (whole s (count s) e) p a.within)) ∙ rw f in
      ap (λ (id : ℕ). rechannel id r.channel ss) own ∙ moved ∙ ap (λ (y : Station). take p ss ++ (y ∷ drop (p + 1) ss)) (sym a.same)
