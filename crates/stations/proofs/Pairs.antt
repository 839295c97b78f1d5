-- A list in which no pair is near, by the positions of its records. It stays such in every part of it, with a record set in that is
-- apart from all, and with a record on another channel where it is apart from all others: whatever it is to be near, as long as it is
-- so in either order. Assumes nothing.
use mathlib.Core.Path.{◌≡◌, refl, sym, ◌∙◌}
use mathlib.Core.Logic.{◌↔◌, ⊎_elim}
use mathlib.Core.Bool.{Bool, true, false, cond, not}
use mathlib.Core.List.Memᴰ
use mathlib.Core.List.{List, [], ◌∷◌}
use Prim.Native.Nat.{ℕ, zero, suc, ◌<◌}
use native.Mathlib.Omega.{arith}
use lib.Dec.{ltb, eqb}
use borrow.Author.Tests.{eqb-true, eqb-false}
use Rattle.ground.specs.Guard.{given}
use Rattle.ground.specs.Lists.{◌∈◌, build, keep}
use Rattle.ground.proofs.Built.{drop-build}
use Rattle.ground.proofs.Cases.{either}
use Rattle.ground.proofs.Order.{Ascending, none, ahead, ahead_of, rest_of, ascending_keep, ascending_map}
use Rattle.ground.proofs.Positions.{in_build, ascending_at}
use Rattle.stations.specs.Lists.{has_id, insert, without, onto, onto_if, rechannel, Apart, NoPair}
use Rattle.stations.specs.declared.Station.{Station}
use Rattle.stations.proofs.Ids.{Ascends}
use Rattle.stations.proofs.Changed.{in_insert, in_without}

-- what is near by one word is near by another
pub no_pair_same : {near near' : Station → Station → Bool} (ss : List Station) → ((x y : Station) → x ∈ ss → y ∈ ss → near x y ≡ near' x y) → NoPair near ss → NoPair near' ss
unfolding NoPair Apart
no_pair_same [] h c = tt
no_pair_same (x ∷ xs) h c =
    (λ y m. sym (h x y (Memᴰ.head refl) (Memᴰ.tail m)) ∙ c.0 y m, no_pair_same xs (λ y z m n. h y z (Memᴰ.tail m) (Memᴰ.tail n)) c.1)

module _ (near : Station → Station → Bool) where
  -- each is apart from all later ones
  abbrev InTurn : List Station → Type 0
  InTurn ss = Ascending (λ (x y : Station). near x y ≡ false) ss

  in_turn : (ss : List Station) → NoPair near ss → InTurn ss
  unfolding NoPair Apart
  in_turn [] c = none
  in_turn (x ∷ xs) c = ahead c.0 (in_turn xs c.1)

  no_pair : (ss : List Station) → InTurn ss → NoPair near ss
  unfolding NoPair Apart
  no_pair [] c = tt
  no_pair (x ∷ xs) c = (ahead_of c, no_pair xs (rest_of c))

  turns : (n : ℕ) (f : ℕ → Station) → ((i j : ℕ) → i < j → j < n → near (f i) (f j) ≡ false) → InTurn (build n f)
  unfolding build
  turns zero f h = none
  turns (suc n) f h =
      ahead {x = f 0} (λ y m. let p = in_build n (λ i. f (suc i)) m in let l = p.1 in rw p.2 (h 0 (suc p.0) (omega arith) (omega arith)))
      (turns n (λ i. f (suc i)) (λ i j l k. h (suc i) (suc j) (omega arith) (omega arith)))

  -- in a list of a function's first n values
  pub no_pair_build : (n : ℕ) (f : ℕ → Station) → NoPair near (build n f) ↔ ((i j : ℕ) → i < j → j < n → near (f i) (f j) ≡ false)
  no_pair_build n f = (
    λ c i j h k. ascending_at (build n f) i j _ _ (in_turn (build n f) c) h (drop-build n f i (omega arith)) (drop-build n f j k),
    λ h. no_pair (build n f) (turns n f h),
  )

  pub no_pair_keep : (p : Station → Bool) (ss : List Station) → NoPair near ss → NoPair near (keep p ss)
  no_pair_keep p ss c = no_pair (keep p ss) (ascending_keep p ss (in_turn ss c))

  pub no_pair_without : (id : ℕ) (ss : List Station) → NoPair near ss → NoPair near (without id ss)
  unfolding without
  no_pair_without id ss c = no_pair_keep (λ x. not (has_id id x)) ss c

  module _ (swap : (a b : Station) → near a b ≡ near b a) where
    pub no_pair_insert : (r : Station) (ss : List Station) → Apart near r ss → NoPair near ss → NoPair near (insert r ss)
    unfolding Apart NoPair insert
    no_pair_insert r [] a c = (a, c)
    no_pair_insert r (x ∷ xs) a c =
        let more = no_pair_insert r xs (λ y m. a y (Memᴰ.tail m)) c.1 in
        let here : near x r ≡ false = swap x r ∙ a x (Memᴰ.head refl) in
        either (NoPair near) (ltb r.id x.id) (r ∷ x ∷ xs) (x ∷ insert r xs)
        (λ _. (a, c))
        (λ _. (λ y m. ⊎_elim (λ (q : y ≡ r). rw q here) (λ (n : y ∈ xs). c.0 y n) ((in_insert r xs).0 m), more))

    module _ (from : Station) (channel : ℕ) (ss : List Station) (only : (x : Station) → x ∈ ss → x.id ≡ from.id → x ≡ from) (a : Apart near (onto channel from) (without from.id ss)) where
      -- the record on its new channel, and another
      apart-moved : (x y : Station) → x ∈ ss → y ∈ ss → x.id ≡ from.id → (y.id ≡ from.id → ⊥) → near (onto channel x) y ≡ false
      unfolding Apart
      apart-moved x y m n own ne = let q : x ≡ from = only x m own in rw q (a y ((in_without from.id ss).1 (n, ne)))

      still_apart : (x y : Station) → x ∈ ss → y ∈ ss → x.id < y.id → near x y ≡ false → near (onto_if from.id channel x) (onto_if from.id channel y) ≡ false
      unfolding given
      still_apart x y m n l h = go (eqb x.id from.id) (eqb y.id from.id) refl refl
        where
          go : (b d : Bool) → eqb x.id from.id ≡ b → eqb y.id from.id ≡ d → near (cond b (onto channel x) x) (cond d (onto channel y) y) ≡ false
          go true true p q = absurd (omega (arith, eqb-true x.id from.id p, eqb-true y.id from.id q))
          go true false p q = apart-moved x y m n (eqb-true x.id from.id p) (eqb-false y.id from.id q)
          go false true p q = swap x (onto channel y) ∙ apart-moved y x n m (eqb-true y.id from.id q) (eqb-false x.id from.id p)
          go false false p q = h

      pub no_pair_rechannel : Ascends ss → NoPair near ss → NoPair near (rechannel from.id channel ss)
      unfolding rechannel
      no_pair_rechannel o c =
          no_pair (rechannel from.id channel ss)
          (ascending_map (onto_if from.id channel) ss (both ss o (in_turn ss c)) (λ x y m n h. still_apart x y m n h.0 h.1))
        where
          both : (l : List Station) → Ascends l → InTurn l → Ascending (λ (x y : Station). (x.id < y.id) × (near x y ≡ false)) l
          both [] o c = none
          both (x ∷ l) o c = ahead (λ y m. (ahead_of o y m, ahead_of c y m)) (both l (rest_of o) (rest_of c))
