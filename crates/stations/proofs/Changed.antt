-- A list with a record set in, taken out, or on another channel: the list cut at the record's place, its length, who stands in
-- it, and that its ids ascend. Assumes nothing.
use mathlib.Core.Path.{◌≡◌, refl, sym, ap, ◌∙◌}
use mathlib.Core.Logic.{◌↔◌, ◌⊎◌, inl, inr, ⊎_elim}
use mathlib.Core.Bool.{Bool, true, false, cond, not}
use mathlib.Core.List.Memᴰ
use mathlib.Core.List.{List, [], ◌∷◌, ◌++◌}
use Prim.Native.Nat.{ℕ, suc, ◌+◌, ◌≤◌, ◌<◌}
use native.Mathlib.Omega.{arith}
use native.Mathlib.Decide.{dec_lt}
use lib.Dec.{eqb, ltb, leb}
use lib.ListN.{length, take, drop, length-map, length-append, length-drop}
use lib.Seq.{length-take-le}
use borrow.Author.Tests.{eqb-true, eqb-false, ne_eqb, lt-ltb, le-ltb, le-leb, lt-leb, ltb-true, ltb-false, not-true}
use Rattle.ground.specs.Guard.{given}
use Rattle.ground.specs.Lists.{◌∈◌, keep, some, first}
use Rattle.ground.proofs.Guards.{or_was}
use Rattle.ground.proofs.Cases.{either}
use Rattle.ground.proofs.Firsts.{some_first}
use Rattle.ground.proofs.Keeps.{length-keep}
use Rattle.ground.proofs.Order.{ahead, none, ahead_of, rest_of, in_keep, in_map, ascending_map}
use Rattle.stations.specs.Lists.{has_id, from_id, insert, without, onto, onto_if, rechannel}
use Rattle.stations.specs.declared.Station.{Station}
use Rattle.stations.proofs.Ids.{Ascends, absent_after}

-- ---- set in

module _ (r : Station) where
  pub insert_cut : (ss : List Station) → some (has_id r.id) ss ≡ false
      → insert r ss ≡ take (first (from_id r.id) ss) ss ++ (r ∷ drop (first (from_id r.id) ss) ss)
  unfolding insert given first some
  insert_cut [] e = refl
  insert_cut (x ∷ xs) e =
      let w = or_was (eqb x.id r.id) (some (has_id r.id) xs) e in
      go (dec_lt r.id x.id) (eqb-false x.id r.id w.0) (insert_cut xs w.1)
    where
      go : Dec (r.id < x.id) → (x.id ≡ r.id → ⊥) → insert r xs ≡ take (first (from_id r.id) xs) xs ++ (r ∷ drop (first (from_id r.id) xs) xs)
          → cond (ltb r.id x.id) (r ∷ x ∷ xs) (x ∷ insert r xs) ≡ take (cond (leb r.id x.id) 0 (suc (first (from_id r.id) xs))) (x ∷ xs) ++ (r ∷ drop (cond (leb r.id x.id) 0 (suc (first (from_id r.id) xs))) (x ∷ xs))
      go (yes l) ne ih = rw (lt-ltb r.id x.id l, le-leb r.id x.id (omega arith))
      go (no l) ne ih = rw (le-ltb r.id x.id (omega arith), lt-leb r.id x.id (omega arith)) (ap (λ (m : List Station). x ∷ m) ih)

  pub length_insert : (ss : List Station) → length (insert r ss) ≡ length ss + 1
  unfolding insert
  length_insert [] = refl
  length_insert (x ∷ xs) =
      let more = length_insert xs in
      either (λ (l : List Station). length l ≡ suc (length xs) + 1) (ltb r.id x.id) (r ∷ x ∷ xs) (x ∷ insert r xs) (λ _. omega arith) (λ _. omega arith)

  in_front : {x : Station} {l : List Station} → (x ≡ r) ⊎ (x ∈ l) → x ∈ (r ∷ l)
  in_front (inl q) = Memᴰ.head q
  in_front (inr m) = Memᴰ.tail m

  pub in_insert : {x : Station} (ss : List Station) → (x ∈ insert r ss) ↔ ((x ≡ r) ⊎ (x ∈ ss))
  unfolding insert
  in_insert [] = (Memᴰ.cases_cons, in_front)
  in_insert {x} (y ∷ ys) =
      let more = in_insert {x = x} ys in
      either (λ (l : List Station). (x ∈ l) ↔ ((x ≡ r) ⊎ (x ∈ (y ∷ ys)))) (ltb r.id y.id) (r ∷ y ∷ ys) (y ∷ insert r ys)
      (λ _. (Memᴰ.cases_cons, in_front))
      (λ _. (
        λ m. ⊎_elim (λ (q : x ≡ y). inr (Memᴰ.head q)) (λ (n : x ∈ insert r ys). ⊎_elim (λ (q : x ≡ r). inl q) (λ (o : x ∈ ys). inr (Memᴰ.tail o)) (more.0 n)) (Memᴰ.cases_cons m),
        λ o. ⊎_elim (λ (q : x ≡ r). Memᴰ.tail (more.1 (inl q)))
            (λ (m : x ∈ (y ∷ ys)). ⊎_elim (λ (q : x ≡ y). Memᴰ.head q) (λ (n : x ∈ ys). Memᴰ.tail (more.1 (inr n))) (Memᴰ.cases_cons m)) o,
      ))

  pub ascends_insert : (ss : List Station) → some (has_id r.id) ss ≡ false → Ascends ss → Ascends (insert r ss)
  unfolding insert some
  ascends_insert [] e a = ahead (λ y m. absurd (Memᴰ.not-nil m)) none
  ascends_insert (x ∷ xs) e a =
      let w = or_was (eqb x.id r.id) (some (has_id r.id) xs) e in
      let ne : x.id ≡ r.id → ⊥ = eqb-false x.id r.id w.0 in
      let more = ascends_insert xs w.1 (rest_of a) in
      either Ascends (ltb r.id x.id) (r ∷ x ∷ xs) (x ∷ insert r xs)
      (λ h. ahead (λ y m. let l = ltb-true r.id x.id h in ⊎_elim (λ (q : y ≡ x). rw q l) (λ (n : y ∈ xs). omega (arith, ahead_of a y n)) (Memᴰ.cases_cons m)) a)
      (λ h. ahead (λ y m. let l = ltb-false r.id x.id h in ⊎_elim (λ (q : y ≡ r). rw q (omega arith)) (λ (n : y ∈ xs). ahead_of a y n) ((in_insert xs).0 m)) more)

-- ---- taken out

module _ (id : ℕ) where
  pub without_none : (ss : List Station) → some (has_id id) ss ≡ false → without id ss ≡ ss
  unfolding without keep some
  without_none [] e = refl
  without_none (x ∷ xs) e =
      let w = or_was (eqb x.id id) (some (has_id id) xs) e in
      rw (w.0, without_none xs w.1)

  pub without_cut : (ss : List Station) → Ascends ss → without id ss ≡ take (first (has_id id) ss) ss ++ drop (suc (first (has_id id) ss)) ss
  unfolding without keep first
  without_cut [] a = refl
  without_cut (x ∷ xs) a = go (eqb x.id id) refl (without_cut xs (rest_of a))
    where
      go : (b : Bool) → eqb x.id id ≡ b → without id xs ≡ take (first (has_id id) xs) xs ++ drop (suc (first (has_id id) xs)) xs
          → cond (not b) (x ∷ without id xs) (without id xs) ≡ take (cond b 0 (suc (first (has_id id) xs))) (x ∷ xs) ++ drop (suc (cond b 0 (suc (first (has_id id) xs)))) (x ∷ xs)
      go true h ih = without_none xs (absent_after id x xs a (omega (arith, eqb-true x.id id h)))
      go false h ih = ap (λ (l : List Station). x ∷ l) ih

  pub length_without : (ss : List Station) → length (without id ss) ≤ length ss
  unfolding without
  length_without ss = length-keep (λ x. not (has_id id x)) ss

  -- one less, where the id stands there
  pub one_less : (ss : List Station) → Ascends ss → some (has_id id) ss ≡ true → length (without id ss) + 1 ≡ length ss
  one_less ss a e =
      let p = first (has_id id) ss in
      let h : p < length ss = ltb-true p (length ss) (sym (some_first (has_id id) ss) ∙ e) in
      rw (without_cut ss a, length-append (take p ss) (drop (suc p) ss), length-take-le p ss (omega arith), length-drop (suc p) ss) (omega arith)

  pub in_without : {x : Station} (ss : List Station) → (x ∈ without id ss) ↔ ((x ∈ ss) × (x.id ≡ id → ⊥))
  unfolding without
  in_without {x} ss =
      let k = in_keep {x = x} (λ y. not (has_id id y)) ss in (
        λ m. let o = k.0 m in (o.0, eqb-false x.id id (not-true _ o.1)),
        λ m. k.1 (m.0, ap not (ne_eqb x.id id m.1)),
      )

-- ---- on another channel

module _ (id channel : ℕ) where
  -- it keeps its id
  same_id : (x : Station) → (onto_if id channel x).id ≡ x.id
  same_id x = either (λ (y : Station). y.id ≡ x.id) (has_id id x) (onto channel x) x (λ _. refl) (λ _. refl)

  -- another record stays as it is
  others_stay : (x : Station) → (x.id ≡ id → ⊥) → onto_if id channel x ≡ x
  unfolding given
  others_stay x ne = rw (ne_eqb x.id id ne)

  pub rechannel_none : (ss : List Station) → some (has_id id) ss ≡ false → rechannel id channel ss ≡ ss
  unfolding rechannel some given
  rechannel_none [] e = refl
  rechannel_none (x ∷ xs) e =
      let w = or_was (eqb x.id id) (some (has_id id) xs) e in
      rw (w.0, rechannel_none xs w.1)

  pub rechannel_cut : (ss : List Station) (y : Station) (rest : List Station) → Ascends ss → drop (first (has_id id) ss) ss ≡ y ∷ rest
      → rechannel id channel ss ≡ take (first (has_id id) ss) ss ++ (onto channel y ∷ rest)
  unfolding rechannel first given
  rechannel_cut [] y rest a e = let z : ◌≡◌ {A = ℕ} 0 1 = cc in absurd (omega arith)
  rechannel_cut (x ∷ xs) y rest a e = go (eqb x.id id) refl e (rechannel_cut xs y rest (rest_of a))
    where
      go : (b : Bool) → eqb x.id id ≡ b → drop (cond b 0 (suc (first (has_id id) xs))) (x ∷ xs) ≡ y ∷ rest
          → (drop (first (has_id id) xs) xs ≡ y ∷ rest → rechannel id channel xs ≡ take (first (has_id id) xs) xs ++ (onto channel y ∷ rest))
          → cond b (onto channel x) x ∷ rechannel id channel xs ≡ take (cond b 0 (suc (first (has_id id) xs))) (x ∷ xs) ++ (onto channel y ∷ rest)
      go true q e ih =
          let h : x ≡ y = cc in
          let k : xs ≡ rest = cc in
          rw (rechannel_none xs (absent_after id x xs a (omega (arith, eqb-true x.id id q))), h, k)
      go false q e ih = ap (λ (l : List Station). x ∷ l) (ih e)

  pub length-rechannel : (ss : List Station) → length (rechannel id channel ss) ≡ length ss
  unfolding rechannel
  length-rechannel ss = length-map ss (onto_if id channel)

  -- who stands there stood there, on its channel or on another
  pub in_rechannel : {x : Station} (ss : List Station) → x ∈ rechannel id channel ss → (y : Station) × (y ∈ ss) × (x ≡ onto_if id channel y)
  unfolding rechannel
  in_rechannel ss m = (in_map (onto_if id channel) ss).0 m

  -- another record
  pub other_rechannel : {x : Station} (ss : List Station) → (x.id ≡ id → ⊥) → (x ∈ ss) ↔ (x ∈ rechannel id channel ss)
  unfolding rechannel
  other_rechannel {x} ss ne = (
    λ m. (in_map (onto_if id channel) ss).1 (x, m, sym (others_stay x ne)),
    λ m.
        let o = (in_map (onto_if id channel) ss).0 m in
        let y = o.0 in
        let n : y.id ≡ id → ⊥ = λ q. ne (ap (λ (z : Station). z.id) o.2 ∙ same_id y ∙ q) in
        let k : x ≡ y = o.2 ∙ others_stay y n in
        rw k o.1,
  )

  pub ascends_rechannel : (ss : List Station) → Ascends ss → Ascends (rechannel id channel ss)
  unfolding rechannel
  ascends_rechannel ss a = ascending_map (onto_if id channel) ss a (λ x y m n h. rw (same_id x, same_id y) h)
