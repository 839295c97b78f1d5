-- Every answer fits the buffer that a program lends for it, so that 22 cannot occur. Assumes nothing.
use Rattle.refusals.specs.Faults.{Verdict, Answer}
use Rattle.refusals.specs.declared.Fault.{Fault}
use Rattle.std.specs.Prelude.{Ok, Err}
use mathlib.Core.Path.{◌≡◌, refl, ap, ◌∙◌}
use mathlib.Core.Bool.{Bool, true, false, cond, and-false}
use mathlib.Core.List.{List, [], ◌∷◌, map, append-nil}
use Prim.Native.Nat.{ℕ, zero, suc, ◌+◌, ◌-◌, ◌*◌, ◌%◌, ◌≤◌, ◌<◌}
use native.Mathlib.Decide.{ℕ_discrete}
use native.Mathlib.Omega.{arith}
use lib.Dec.{ltb, eqb}
use lib.ListN.{length, drop, length-map}
use borrow.Author.Tests.{ltb-true, eq-eqb}
use Rattle.ground.specs.Guard.{given}
use Rattle.ground.specs.Lists.{span, each, keep}
use Rattle.ground.specs.Rows.{row, flat}
use Rattle.ground.proofs.Guards.{and_was}
use Rattle.ground.proofs.Keeps.{length-keep}
use Rattle.ground.proofs.Tests.{fails}
use Rattle.ground.proofs.Spans.{length-span, keep_none}
use Rattle.wire.specs.Be.{be}
use Rattle.part73.specs.Standards.{chosen}
use Rattle.part73.specs.Channels.{lowest, highest, channel_count, new_channels}
use Rattle.versions.specs.Version.{limit}
use Rattle.stations.specs.Image.{judged, station_at, stations, count, Accepted}
use Rattle.stations.specs.Encode.{encode}
use Rattle.stations.specs.Lists.{movable}
use Rattle.stations.specs.declared.Station.{Station}
use Rattle.stations.proofs.Whole.{whole, length-stations}
use Rattle.stations.proofs.Stages.{is_accepted}
use Rattle.stations.proofs.Back.{length-encode}
use Rattle.stations.proofs.Fine.{fine_at}
use Rattle.spacing.specs.Pair.{Assignment, sited}
use Rattle.spacing.specs.declared.Place.{Place}
use Rattle.survey.specs.Ways.{looked, studied, near, chosen_for}
use Rattle.survey.specs.declared.Terms.{Terms}
use Rattle.desk.specs.Answers.{grant, deny, on_table, on_asked}
use Rattle.studies.specs.Studies.{place_asked, asked as asked', terms_asked, study_fault, study}
use Rattle.studies.specs.declared.Wanted.{Wanted}
use Rattle.checks.specs.Check.{asked, on_one, row_of, short_rows, rows_for, checked_for}
use Rattle.checks.proofs.Listing.{length-flat}
use Rattle.planning.specs.Scene.{Scene, scene, scene_of, allowed}
use Rattle.planning.proofs.Tallies.{Tally, nobody, lone, several, tally}
use Rattle.arrangements.specs.Arrange.{arranged as arranged', arrangements, rows_for as rows_for', arranged_for}
use Rattle.arrangements.specs.Placed.{clear, moves_of, moves, arranged}
use Rattle.arrangements.proofs.Movers.{Clear, clear_is, moves_of_lem}
use Rattle.arrangements.proofs.Positions.{arranged_at}
use Rattle.changes.specs.Changes.{Change, add, withdraw, move, Decision, entered, decide, written, changed_for}
use Rattle.stations.proofs.Changed.{length_insert, length_without, length-rechannel}
use Rattle.changes.proofs.Grants.{added, withdrawn, moved}
use Rattle.asking.specs.Asking.{ends_early, past, proposal_of, wanted_of, newcomer_of, check_input, arrange_input, add_input, withdraw_input, move_input, change_input}

-- ---- the way to a granted answer

pub never : (f : Fault) (vs : List ℕ) → deny f ≡ grant vs → ⊥
never f vs e = let z : ◌≡◌ {A = ℕ} 0 1 = cc in omega arith

granted_by : (b : Bool) (j : Answer) (v : Verdict) (xs vs : List ℕ) → cond b ends_early (on_table j (on_asked v (grant xs))) ≡ grant vs → (n : ℕ) × (j ≡ Ok n) × (xs ≡ vs)
granted_by true j v xs vs e = absurd (never _ vs e)
granted_by false (Err f) v xs vs e = absurd (never f vs e)
granted_by false (Ok n) (Err f) xs vs e = absurd (never f vs e)
granted_by false (Ok n) (Ok tt) xs vs e = (n, refl, cc)

granted_way : (k : ℕ) (input s : List ℕ) (w : Wanted) (numbers : (ℕ → ℕ → ℕ → ℕ) → List Station → List ℕ) (vs : List ℕ) → past k input (study s w numbers) ≡ grant vs → Accepted s × (numbers (chosen w.standard) (studied (terms_asked w) (stations s)) ≡ vs)
unfolding past given study
granted_way k input s w numbers vs e =
    let g = granted_by (ltb (length input) k) (judged s) (study_fault (stations s) w) (numbers (chosen w.standard) (studied (terms_asked w) (stations s))) vs e in
    (is_accepted s g.0 g.1, g.2)

-- ---- how many are kept

-- one is not
keep-less : (p : ℕ → Bool) (n a k : ℕ) → a ≤ k → k < a + n → p k ≡ false → length (keep p (span a n)) < n
unfolding keep span
keep-less p zero a k lo hi e = absurd (omega arith)
keep-less p (suc n) a k lo hi e = go (ℕ_discrete a k) (length-keep p (span (suc a) n)) (λ l. keep-less p n (suc a) k l (omega arith) e)
  where
    more : (b : Bool) → length (keep p (span (suc a) n)) < n → length (cond b (a ∷ keep p (span (suc a) n)) (keep p (span (suc a) n))) < suc n
    more true h = omega arith
    more false h = omega arith

    go : Dec (a ≡ k) → length (keep p (span (suc a) n)) ≤ length (span (suc a) n) → (suc a ≤ k → length (keep p (span (suc a) n)) < n) → length (cond (p a) (a ∷ keep p (span (suc a) n)) (keep p (span (suc a) n))) < suc n
    go (yes q) h f = rw (ap p q ∙ e) (omega (arith, length-span n (suc a)))
    go (no ne) h f = more (p a) (f (omega arith))

-- ---- Check: three numbers for each station

few-short : (km : ℕ → ℕ → ℕ → ℕ) (a : Assignment) (ss : List Station) → length ss ≤ limit → length (flat (short_rows km a ss)) ≤ 3 * limit
unfolding short_rows
few-short km a ss h = omega (arith, length-flat (short_rows km a ss), length-map (keep (near km a) ss) (row_of km a), length-keep (near km a) ss)

-- no more are studied than there are
few-studied : (s : List ℕ) (t : Terms) → Accepted s → length (studied t (stations s)) ≤ limit
unfolding studied
few-studied s t e = let w = whole s (count s) e in omega (arith, w.few, length-stations w, length-keep (looked t) (stations s))

pub check_fits : (t : Terms) (input vs : List ℕ) → check_input t input ≡ grant vs → length vs ≤ 3 * limit
unfolding check_input checked_for
check_fits t input vs e =
    let s = drop 12 input in
    let p = proposal_of t input in
    let w = granted_way 12 input s (on_one p) (rows_for (asked p)) vs e in
    omega (arith, few-short (chosen t.standard) (asked p) (studied t (stations s)) (few-studied s t w.0), ap length w.1)

-- ---- Arrange: three numbers for each of the 79 channels that one station may go to

module _ (t : Scene) (c : ℕ) where
  -- not to its own channel
  own : (i : ℕ) → allowed t c i (t.channel i) ≡ false
  unfolding allowed
  own i = rw (eq-eqb (t.channel i) (t.channel i) refl) (and-false (t.movable i))

  fixed : (i m : ℕ) → t.movable i ≡ false → allowed t c i m ≡ false
  unfolding allowed
  fixed i m e = rw e

  few-moves : (i : ℕ) → (t.movable i ≡ true → (lowest ≤ t.channel i) × (t.channel i ≤ highest)) → length (moves_of t c i) ≤ 79
  unfolding moves_of
  few-moves i band = go (t.movable i) refl
    where
      same : length (map (λ m. row c (t.id i) m) (keep (allowed t c i) new_channels)) ≡ length (keep (allowed t c i) new_channels)
      same = length-map (keep (allowed t c i) new_channels) (λ m. row c (t.id i) m)

      go : (b : Bool) → t.movable i ≡ b → length (map (λ m. row c (t.id i) m) (keep (allowed t c i) new_channels)) ≤ 79
      go true e = omega (arith, same, keep-less (allowed t c i) channel_count lowest (t.channel i) (band e).0 (omega (arith, (band e).1)) (own i))
      go false e = omega (arith, same, ap length (keep_none (allowed t c i) new_channels (λ m. fixed i m e)))

  -- a blocked channel has the moves of its first blocker alone
  few_rows : ((i : ℕ) → i < t.size → t.movable i ≡ true → (lowest ≤ t.channel i) × (t.channel i ≤ highest)) → length (arranged t c) ≤ 79
  unfolding arranged
  few_rows band = go (clear t c) refl (tally (t.new c) t.size)
    where
      one : (a : ℕ) → a < t.size → t.new c a ≡ true → (Clear t c → ⊥) → length (moves t c) ≤ 79
      one a h q blocked = omega (arith, ap length (moves_of_lem t c a h q blocked), few-moves a (band a h))

      go : (b : Bool) → clear t c ≡ b → {v : ℕ} → Tally (t.new c) t.size v → length (cond b (row c 0 0 ∷ []) (moves t c)) ≤ 79
      go true e w = omega arith
      go false e (nobody f) = absurd (fails (clear_is t c) e (λ j h. f.passed j (omega arith) h))
      go false e (lone a l f g) = one a l (f.hit l) (fails (clear_is t c) e)
      go false e (several a b l f g h) = one a l (f.hit l) (fails (clear_is t c) e)

-- one new channel, asked for alone
pub one_channel : (km : ℕ → ℕ → ℕ → ℕ) (new : ℕ → Assignment) (ss : List Station) (c : ℕ) → arrangements km new ss c c ≡ arranged' km new ss c
unfolding arrangements span each
one_channel km new ss c =
    let e : suc c - c ≡ 1 = omega arith in
    ap (λ (n : ℕ). each (arranged' km new ss) (span c n)) e ∙ append-nil (arranged' km new ss c)

-- a movable station is on one of 221 to 300
in_band : (s : List ℕ) (t : Terms) (p : Place) → Accepted s → (i : ℕ) → i < count s → (scene_of s t p).movable i ≡ true → (lowest ≤ (scene_of s t p).channel i) × ((scene_of s t p).channel i ≤ highest)
unfolding scene movable
in_band s t p e i h q =
    let r = station_at s i in
    let a = and_was (eqb (r.flags % 2) 0) (ltb 220 r.channel) (and_was (looked t r) _ q).1 in
    let b = ltb-true 220 r.channel a.1 in
    (omega arith, (fine_at s (count s) e i h).high)

few-arranged : (s : List ℕ) (t : Terms) (p : Place) (c : ℕ) → Accepted s → length (rows_for' (sited p) c c (chosen_for t) (studied t (stations s))) ≤ 3 * (channel_count - 1)
unfolding studied scene
few-arranged s t p c e =
    let ss = keep (looked t) (stations s) in
    omega (arith, length-flat (arrangements (chosen_for t) (sited p) ss c c), ap length (one_channel (chosen_for t) (sited p) ss c ∙ arranged_at (chosen_for t) (looked t) s e (sited p) c), few_rows (scene_of s t p) c (in_band s t p e))

pub arrange_fits : (channel : ℕ) (t : Terms) (input vs : List ℕ) → arrange_input channel channel t input ≡ grant vs → length vs ≤ 3 * (channel_count - 1)
unfolding arrange_input arranged_for
arrange_fits channel t input vs e =
    let s = drop 10 input in
    let q = wanted_of channel channel t input in
    let w = granted_way 10 input s q (rows_for' (asked' q) channel channel) vs e in
    omega (arith, few-arranged s t (place_asked q) channel w.0, ap length w.1)

-- ---- Add, Withdraw, Move: the image of no more stations than a table may have

few_left : (ss : List Station) (c : Change) (rs : List Station) → length ss ≤ limit → decide ss c ≡ Ok rs → length rs ≤ limit
few_left ss (add w) rs h e =
    let a = added ss w rs e in
    omega (arith, a.passes.room, ap length a.is, length_insert (entered w) ss)
few_left ss (withdraw id) rs h e =
    let a = withdrawn ss id rs e in
    omega (arith, ap length a.is, length_without id ss)
few_left ss (move id channel) rs h e =
    let a = moved ss id channel rs e in
    omega (arith, ap length a.is, length-rechannel id channel ss)

changed_fits : (s : List ℕ) (c : Change) (vs : List ℕ) → changed_for s c ≡ grant vs → length vs ≤ 8 + 16 * limit
unfolding changed_for
changed_fits s c vs e = on (judged s) refl e
  where
    of : (d : Decision) → decide (stations s) c ≡ d → length (stations s) ≤ limit → written d ≡ grant vs → length vs ≤ 8 + 16 * limit
    of (Err f) q h w = absurd (never f vs w)
    of (Ok rs) q h w =
        let same : encode rs ≡ vs = cc in
        omega (arith, ap length same, length-encode rs, few_left (stations s) c rs h q)

    on : (j : Answer) → judged s ≡ j → on_table j (written (decide (stations s) c)) ≡ grant vs → length vs ≤ 8 + 16 * limit
    on (Err f) q w = absurd (never f vs w)
    on (Ok n) q w =
        let t = whole s n q in
        of (decide (stations s) c) refl (omega (arith, t.few, length-stations t)) w

past_fits : (k : ℕ) (input : List ℕ) (c : Change) (vs : List ℕ) → past k input (changed_for (drop k input) c) ≡ grant vs → length vs ≤ 8 + 16 * limit
unfolding past given
past_fits k input c vs e = go (ltb (length input) k) e
  where
    go : (b : Bool) → cond b ends_early (changed_for (drop k input) c) ≡ grant vs → length vs ≤ 8 + 16 * limit
    go true q = absurd (never _ vs q)
    go false q = changed_fits (drop k input) c vs q

pub change_fits : (input vs : List ℕ) → change_input input ≡ grant vs → length vs ≤ 8 + 16 * limit
unfolding change_input add_input withdraw_input move_input given
change_fits input vs e = go (eqb (be 1 input 0) 97) (eqb (be 1 input 0) 119) (eqb (be 1 input 0) 109) e
  where
    go : (a w m : Bool) → cond a (past 17 input (changed_for (drop 17 input) (add (newcomer_of input)))) (cond w (past 5 input (changed_for (drop 5 input) (withdraw (be 4 input 1)))) (cond m (past 7 input (changed_for (drop 7 input) (move (be 4 input 1) (be 2 input 5)))) ends_early)) ≡ grant vs → length vs ≤ 8 + 16 * limit
    go true w m q = past_fits 17 input _ vs q
    go false true m q = past_fits 5 input _ vs q
    go false false true q = past_fits 7 input _ vs q
    go false false false q = absurd (never _ vs q)
