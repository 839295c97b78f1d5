-- What the list of arrangements is: a row stands in it exactly when it is an arrangement; it ascends strictly, so each
-- stands once; and there is only one such list. Assumes nothing.
use Rattle.std.specs.Prelude.{Ok}
use mathlib.Core.Path.{◌≡◌, refl, sym, ap, ◌∙◌, subst}
use mathlib.Core.Logic.{◌↔◌, inl, inr}
use mathlib.Core.Bool.{Bool, true, false, cond, not}
use mathlib.Core.List.Memᴰ
use mathlib.Core.List.{List, [], ◌∷◌, map}
use Prim.Native.Nat.{ℕ, suc, ◌-◌, ◌≤◌}
use native.Mathlib.Omega.{arith}
use lib.Dec.{eqb}
use borrow.Author.Tests.{ne_eqb, eqb-false, not-true}
use Rattle.ground.specs.Lists.{◌∈◌, span, keep, each}
use Rattle.ground.specs.Rows.{Row, row, flat}
use Rattle.ground.proofs.Guards.{and_was, and_both}
use Rattle.ground.proofs.Tests.{fails, fails_where}
use Rattle.ground.proofs.Keeps.{every_in}
use Rattle.ground.proofs.Order.{in_each, in_map, in_keep, in_span, Ascending, none, ahead, Strict, By, strict_by, strict_then, one_ascending, ascending_span, ascending_keep, ascending_map, ascending_each}
use Rattle.part73.specs.Channels.{lowest, highest, channel_count, new_channels}
use Rattle.part73.specs.Standards.{chosen}
use Rattle.spacing.specs.Pair.{Assignment}
use Rattle.stations.specs.Image.{stations, count, Accepted}
use Rattle.stations.specs.Lists.{has_id, movable, without, onto}
use Rattle.stations.specs.declared.Station.{Station}
use Rattle.survey.specs.Ways.{near, on_channel, studied, clear}
use Rattle.survey.proofs.Studied.{studied_ascend}
use Rattle.desk.specs.Answers.{grant}
use Rattle.studies.specs.Studies.{asked, terms_asked, study_fault}
use Rattle.studies.specs.declared.Wanted.{Wanted}
use Rattle.studies.proofs.Ways.{granted_on}
use Rattle.arrangements.specs.Arrange.{allowed, moves_of, arranged, arrangements, rows_for, arranged_for}
use Rattle.arrangements.specs.Meaning.{Clear, ClearBut, Move, Arrangement, unmoved, moving, Before}
use Rattle.arrangements.proofs.Positions.{clear_cons}

strict : Strict Before
strict = strict_then (λ r. r.a) (strict_then (λ r. r.b) (strict_by (λ r. r.c)))

module _ (km : ℕ → ℕ → ℕ → ℕ) (ss : List Station) where
  -- ---- the tests and their meaning

  module _ (p : Assignment) where
    pub clear_is : (clear km p ss ≡ true) ↔ Clear km ss p
    unfolding clear
    clear_is = (λ e x m. not-true _ ((every_in _ ss).0 e x m), λ f. (every_in (λ x. not (near km p x)) ss).1 (λ x m. ap not (f x m)))

    but_is : (r : Station) → (clear km p (without r.id ss) ≡ true) ↔ ClearBut km ss r p
    unfolding clear without
    but_is r = (
      λ e x m ne. not-true _ ((every_in (λ x. not (near km p x)) _).0 e x ((in_keep (λ x. not (has_id r.id x)) ss).1 (m, ap not (ne_eqb x.id r.id ne)))),
      λ f. (every_in (λ x. not (near km p x)) _).1 (λ x m. let k = (in_keep (λ x. not (has_id r.id x)) ss).0 m in ap not (f x k.0 (eqb-false x.id r.id (not-true _ k.1)))),
    )

  -- what is allowed is a clean move of a movable station to another channel
  pub allowed_is : (new : Assignment) (r : Station) (m : ℕ) → r ∈ ss → lowest ≤ m → m ≤ highest → (allowed km new ss r m ≡ true) ↔ Move km ss new r m
  unfolding allowed
  allowed_is new r m h lo hi = (to, from)
    where
      to : allowed km new ss r m ≡ true → Move km ss new r m
      to e =
          let a = and_was (movable r) _ e in
          let b = and_was (not (eqb m r.channel)) _ a.1 in
          let d = and_was (clear km (on_channel m r) (without r.id ss)) _ b.1 in
          let f = and_was (not (near km new (onto m r))) _ (sym (clear_cons km new (onto m r) (without r.id ss)) ∙ d.1) in
          record {
            stands = h;
            movable = a.0;
            low = lo;
            high = hi;
            other = eqb-false m r.channel (not-true _ b.0);
            moved = (but_is (on_channel m r) r).0 d.0;
            fresh = (but_is new r).0 f.1;
            each_other = not-true _ f.0;
          }

      from : Move km ss new r m → allowed km new ss r m ≡ true
      from v =
          and_both (movable r) _ v.movable
          (and_both (not (eqb m r.channel)) _ (ap not (ne_eqb m r.channel v.other))
          (and_both (clear km (on_channel m r) (without r.id ss)) _ ((but_is (on_channel m r) r).1 v.moved)
          (clear_cons km new (onto m r) (without r.id ss) ∙ and_both (not (near km new (onto m r))) _ (ap not v.each_other) ((but_is new r).1 v.fresh))))

  module _ (new : ℕ → Assignment) where
    -- ---- the rows of one new channel

    module _ (c : ℕ) where
      -- a row that moves r to m
      record Moving (x : Row) : Type 0 where
        r : Station
        m : ℕ
        move : Move km ss (new c) r m
        is : x ≡ row c r.id m

      moves_in : (x : Row) → (x ∈ each (moves_of km new ss c) ss) ↔ Moving x
      unfolding moves_of
      moves_in x = (to, from)
        where
          to : x ∈ each (moves_of km new ss c) ss → Moving x
          to h =
              let a = (in_each (moves_of km new ss c) ss).0 h in
              let b = (in_map (λ m. row c a.0.id m) (keep (allowed km (new c) ss a.0) new_channels)).0 a.2 in
              let d = (in_keep (allowed km (new c) ss a.0) new_channels).0 b.1 in
              let e = (in_span b.0 channel_count lowest).0 d.0 in
              record { r = a.0; m = b.0; move = (allowed_is (new c) a.0 b.0 a.1 e.0 (omega (arith, e.1))).0 d.1; is = b.2 }

          from : Moving x → x ∈ each (moves_of km new ss c) ss
          from v =
              let w = v.move in
              let d = (in_keep (allowed km (new c) ss v.r) new_channels).1 ((in_span v.m channel_count lowest).1 (w.low, omega (arith, w.high)), (allowed_is (new c) v.r v.m w.stands w.low w.high).1 w) in
              (in_each (moves_of km new ss c) ss).1 (v.r, w.stands, (in_map (λ m. row c v.r.id m) (keep (allowed km (new c) ss v.r) new_channels)).1 (v.m, d, v.is))

      -- each new channel's rows carry it
      arranged-new : (x : Row) → x ∈ arranged km new ss c → x.a ≡ c
      unfolding arranged
      arranged-new x = go (clear km (new c) ss)
        where
          go : (b : Bool) → x ∈ cond b (row c 0 0 ∷ []) (each (moves_of km new ss c) ss) → x.a ≡ c
          go true h = ap (λ (r : Row). r.a) (Memᴰ.eq_of_singleton h)
          go false h = ap (λ (r : Row). r.a) ((moves_in x).0 h).is

    module _ (first last : ℕ) where
      -- ---- a row stands in the list exactly when it is an arrangement
      pub arrangement_listed : (x : Row) → (x ∈ arrangements km new ss first last) ↔ Arrangement km ss new first last x
      unfolding arrangements arranged
      arrangement_listed x = (to, from x)
        where
          arrangement : (c : ℕ) → first ≤ c → c ≤ last → (b : Bool) → clear km (new c) ss ≡ b → x ∈ cond b (row c 0 0 ∷ []) (each (moves_of km new ss c) ss) → Arrangement km ss new first last x
          arrangement c lo hi true e h = subst (Arrangement km ss new first last) (sym (Memᴰ.eq_of_singleton h)) (unmoved c lo hi ((clear_is (new c)).0 e))
          arrangement c lo hi false e h =
              let v = (moves_in c x).0 h in
              subst (Arrangement km ss new first last) (sym v.is) (moving c v.r v.m lo hi (fails (clear_is (new c)) e) v.move)

          to : x ∈ arrangements km new ss first last → Arrangement km ss new first last x
          to h =
              let a = (in_each (arranged km new ss) (span first (suc last - first))).0 h in
              let b = (in_span a.0 (suc last - first) first).0 a.1 in
              arrangement a.0 b.0 (omega (arith, b.1)) (clear km (new a.0) ss) refl a.2

          channel : {y : Row} (c : ℕ) → first ≤ c → c ≤ last → y ∈ arranged km new ss c → y ∈ arrangements km new ss first last
          channel c lo hi h = (in_each (arranged km new ss) (span first (suc last - first))).1 (c, (in_span c (suc last - first) first).1 (lo, omega arith), h)

          from : (y : Row) → Arrangement km ss new first last y → y ∈ arrangements km new ss first last
          from y (unmoved c lo hi f) = channel c lo hi (rw ((clear_is (new c)).1 f) (Memᴰ.head refl))
          from y (moving c r m lo hi b w) = channel c lo hi (rw (fails_where (clear_is (new c)) b) ((moves_in c _).1 (record { r = r; m = m; move = w; is = refl })))

      -- ---- it ascends strictly, where the ids do

      pub ascends : Ascending (By (λ r. r.id)) ss → Ascending Before (arrangements km new ss first last)
      unfolding arrangements arranged moves_of
      ascends ids =
          ascending_each (arranged km new ss) (span first (suc last - first)) (ascending_span (suc last - first) first)
          (λ c h. one c (clear km (new c) ss))
          (λ c d g h l u v p q. inl (omega (arith, arranged-new c u p, arranged-new d v q)))
        where
          of : ℕ → Station → List Row
          of c r = map (λ m. row c r.id m) (keep (allowed km (new c) ss r) new_channels)

          one : (c : ℕ) (b : Bool) → Ascending Before (cond b (row c 0 0 ∷ []) (each (moves_of km new ss c) ss))
          one c true = ahead (λ y h. absurd (Memᴰ.not-nil h)) none
          one c false =
              ascending_each (of c) ss ids
              (λ r h. ascending_map (λ m. row c r.id m) (keep (allowed km (new c) ss r) new_channels) (ascending_keep (allowed km (new c) ss r) new_channels (ascending_span channel_count lowest)) (λ m n p q l. inr (refl, inr (refl, l))))
              (λ i j g h l u v p q.
              let a = (in_map (λ m. row c i.id m) (keep (allowed km (new c) ss i) new_channels)).0 p in
              let b = (in_map (λ m. row c j.id m) (keep (allowed km (new c) ss j) new_channels)).0 q in
              inr (
                ap (λ (r : Row). r.a) a.2 ∙ sym (ap (λ (r : Row). r.a) b.2),
                inl (omega (arith, ap (λ (r : Row). r.b) a.2, ap (λ (r : Row). r.b) b.2)),
              ))

      -- ---- there is only one such list

      pub record Complete (l : List Row) : Type 0 where
        pub exactly : (x : Row) → (x ∈ l) ↔ Arrangement km ss new first last x
        pub ascending : Ascending Before l

      pub complete : Ascending (By (λ r. r.id)) ss → Complete (arrangements km new ss first last)
      complete ids = record { exactly = arrangement_listed; ascending = ascends ids }

      pub only_list : (l m : List Row) → Complete l → Complete m → l ≡ m
      only_list l m a b =
          one_ascending strict l m a.ascending b.ascending (λ x. (λ h. (b.exactly x).1 ((a.exactly x).0 h), λ h. (a.exactly x).1 ((b.exactly x).0 h)))

-- where table and question pass, the numbers that are granted are those of the one complete list by the chosen table
pub granted : (s : List ℕ) (w : Wanted) → Accepted s → study_fault (stations s) w ≡ (Ok tt) → (l : List Row) → Complete (chosen w.standard) (studied (terms_asked w) (stations s)) (asked w) w.first w.last l → arranged_for s w ≡ grant (flat l)
unfolding arranged_for
granted s w e q l c =
    let ss = studied (terms_asked w) (stations s) in
    granted_on s w (rows_for (asked w) w.first w.last) e q
    ∙ ap (λ (l : List Row). grant (flat l)) (only_list (chosen w.standard) ss (asked w) w.first w.last _ l (complete (chosen w.standard) ss (asked w) w.first w.last (studied_ascend s (count s) e (terms_asked w))) c)
