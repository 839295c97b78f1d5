-- A granted change leaves no new near pair, whatever it is to be near, as long as it reaches no farther than being short: so a list in
-- which no pair is short stays such by each of the three changes, and one in which no two records are twins. Assumes nothing.
use Rattle.std.specs.Prelude.{Ok}
use mathlib.Core.Path.{◌≡◌, refl, sym, ap, ◌∙◌, subst}
use mathlib.Core.Logic.{◌↔◌}
use mathlib.Core.Bool.{Bool, true, false, ◌&&◌, ◌||◌, true≢false}
use mathlib.Core.List.{List}
use Prim.Native.Nat.{ℕ, ◌<◌}
use native.Mathlib.Omega.{arith}
use lib.Dec.{ltb}
use borrow.Author.Tests.{ltb-false}
use Rattle.ground.specs.Lists.{◌∈◌}
use Rattle.part73.proofs.Facts.{table-a}
use Rattle.spacing.specs.Pair.{short}
use Rattle.spacing.proofs.Meaning.{short_either, never_low, always_same}
use Rattle.survey.specs.Ways.{as_it_stands}
use Rattle.stations.specs.Lists.{twins, onto, without, Apart, NoPair}
use Rattle.stations.specs.declared.Station.{Station}
use Rattle.stations.proofs.Ids.{one_id}
use Rattle.stations.proofs.Pairs.{no_pair_same, no_pair_insert, no_pair_without, no_pair_rechannel}
use Rattle.stations.proofs.Fine.{Fine, Good}
use Rattle.stations.proofs.Repeats.{twins-are, twins_either}
use Rattle.desk.proofs.Asked.{fair}
use Rattle.finding.specs.Conflicts.{short_to}
use Rattle.changes.specs.Changes.{Change, add, withdraw, move, entered, decide}
use Rattle.changes.specs.declared.Newcomer.{Newcomer}
use Rattle.changes.proofs.Grants.{AddPasses, added, withdrawn, moved}
use Rattle.changes.proofs.Apart.{add_apart, move-apart}

-- a newcomer past every refusal but 20 may stand in a table, on a channel above 220
pub fine_entered : (t : ℕ) (ss : List Station) (w : Newcomer) → AddPasses ss w → Fine t (entered w) × (220 < w.channel)
fine_entered t ss w a =
    let f = fair w.channel w.channel w.class w.zone w.latitude w.longitude a.asked in
    let k = f.kind in
    let l = k.low in
    let c = k.known in
    (record { counts = a.counts; low = omega arith; high = k.high; class = omega arith; flags = omega arith; placed = f.placed }, omega arith)

-- ---- any relation

-- a station above 220 that is not short to another is not near to it
abbrev pub Nearer : (Station → Station → Bool) → Type 0
Nearer near = (t : ℕ) (r x : Station) → Fine t r → 220 < r.channel → short_to r x ≡ false → near r x ≡ false

module _ (near : Station → Station → Bool) (swap : (a b : Station) → near a b ≡ near b a) (nearer : Nearer near) where
  apart_too : (t : ℕ) (r : Station) (ss : List Station) → Fine t r → 220 < r.channel → Apart short_to r ss → Apart near r ss
  unfolding Apart
  apart_too t r ss f h a x m = nearer t r x f h (a x m)

  pub unpaired : (t : ℕ) (ss : List Station) → Good t ss → (c : Change) (rs : List Station) → NoPair near ss → decide ss c ≡ Ok rs → NoPair near rs
  unpaired t ss g (add w) rs k e =
      let a = added ss w rs e in
      let f = fine_entered t ss w a.passes in
      rw a.is (no_pair_insert near swap (entered w) ss (apart_too t (entered w) ss f.0 f.1 (add_apart ss w rs e)) k)
  unpaired t ss g (withdraw id) rs k e = rw (withdrawn ss id rs e).is (no_pair_without near id ss k)
  unpaired t ss g (move id channel) rs k e =
      let o = g.ascends in
      let a = move-apart ss o id channel rs e in
      let x = a.0 in
      let p = a.1 in
      let own = p.own in
      let f = g.each x p.held in
      let moved-fine : Fine t (onto channel x) = record { counts = f.counts; low = omega (arith, p.low); high = p.high; class = f.class; flags = f.flags; placed = f.placed } in
      let away : Apart short_to (onto channel x) (without x.id ss) = subst (λ (k : ℕ). Apart short_to (onto channel x) (without k ss)) (sym own) a.2 in
      let far = apart_too t (onto channel x) (without x.id ss) moved-fine (omega (arith, p.low)) away in
      rw ((moved ss id channel rs e).is, ← own) (no_pair_rechannel near swap x channel ss (λ y m q. one_id x.id y x ss o q refl m p.held) far o k)

-- ---- shortness

pub clean : (t : ℕ) (ss : List Station) → Good t ss → (c : Change) (rs : List Station) → NoPair short_to ss → decide ss c ≡ Ok rs → NoPair short_to rs
clean = unpaired short_to (λ a b. short_either table-a (as_it_stands a) (as_it_stands b)) (λ t r x f h e. e)

-- ---- records that are twins

-- they are at one site on one channel, so S is 0 and they are short
twins-short : Nearer twins
twins-short t r x f high e = go (twins r x) refl
  where
    go : (b : Bool) → twins r x ≡ b → twins r x ≡ false
    go true q =
        let w = (twins-are r x).0 q in
        let one : as_it_stands x ≡ as_it_stands r = rw (w.channel, w.class, w.latitude, w.longitude) in
        let c = f.class in
        absurd (true≢false (sym (always_same table-a (as_it_stands r) (omega arith) high) ∙ ap (short (as_it_stands r)) (sym one) ∙ e))
    go false q = q

-- so Add and Move make no such pair
pub single : (t : ℕ) (ss : List Station) → Good t ss → (c : Change) (rs : List Station) → NoPair twins ss → decide ss c ≡ Ok rs → NoPair twins rs
single = unpaired twins twins_either twins-short

-- ---- pairs with a channel above 220

-- 01, Classes, zones, separations: a pair with both channels at or below 220 is under another rule
abbrev pub above_and_short : Station → Station → Bool
above_and_short x y = (ltb 220 x.channel || ltb 220 y.channel) && short_to x y

module _ (x y : Station) (known : x.class < 8) (known' : y.class < 8) where
  above-short : above_and_short x y ≡ short_to x y
  above-short = go (ltb 220 x.channel) (ltb 220 y.channel) refl refl
    where
      go : (a b : Bool) → ltb 220 x.channel ≡ a → ltb 220 y.channel ≡ b → ((a || b) && short_to x y) ≡ short_to x y
      go true b p q = refl
      go false true p q = refl
      go false false p q = sym (never_low table-a (as_it_stands x) (as_it_stands y) known known' (ltb-false 220 x.channel p) (ltb-false 220 y.channel q))

-- in an accepted table no pair is short exactly when no pair with a channel above 220 is
pub no_pair_above : (t : ℕ) (ss : List Station) → Good t ss → NoPair above_and_short ss ↔ NoPair short_to ss
no_pair_above t ss g =
    let same : (x y : Station) → x ∈ ss → y ∈ ss → above_and_short x y ≡ short_to x y =
    λ x y m n. let k = (g.each x m).class in let l = (g.each y n).class in above-short x y (omega arith) (omega arith) in
    (no_pair_same ss same, no_pair_same ss (λ x y m n. sym (same x y m n)))
