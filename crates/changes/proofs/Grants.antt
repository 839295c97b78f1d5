-- What a granted change tells: the list that is granted, and every test that it passed. Assumes nothing.
use Rattle.refusals.specs.Faults.{Verdict}
use Rattle.refusals.specs.declared.Fault.{Fault}
use Rattle.std.specs.Prelude.{Ok, Err}
use mathlib.Core.Path.{◌≡◌, refl, sym}
use mathlib.Core.Bool.{true, false}
use mathlib.Core.List.{List}
use Prim.Native.Nat.{ℕ, ◌≤◌, ◌<◌}
use native.Mathlib.Omega.{arith}
use lib.Dec.{ltb}
use lib.ListN.{length}
use borrow.Author.Tests.{ltb-false, leb-false, eqb-false}
use Rattle.ground.specs.Lists.{◌∈◌, some}
use Rattle.ground.proofs.Guards.{past, not_was, or_was}
use Rattle.versions.specs.Version.{limit}
use Rattle.stations.specs.Lists.{has_id, movable, onto, insert, without, rechannel}
use Rattle.stations.specs.declared.Station.{Station}
use Rattle.stations.proofs.Ids.{with_found}
use Rattle.finding.specs.Conflicts.{conflicts}
use Rattle.changes.specs.Changes.{add, withdraw, move, Decision, on_verdict, asked_of, entered, decide}
use Rattle.changes.specs.declared.Newcomer.{Newcomer}

pub denied : (f : Fault) (rs : List Station) → ◌≡◌ {A = Decision} (Err f) (Ok rs) → ⊥
denied f rs e = cc

same : {rs ss : List Station} → ◌≡◌ {A = Decision} (Ok rs) (Ok ss) → rs ≡ ss
same e = cc

-- what was asked for was in order
passed : (v : Verdict) (d : Decision) (rs : List Station) → on_verdict v d ≡ Ok rs → (v ≡ (Ok tt)) × (d ≡ Ok rs)
passed (Ok tt) d rs e = (refl, e)
passed (Err f) d rs e = absurd (denied f rs e)

-- ---- Add

-- past every refusal but 20
pub record AddPasses (ss : List Station) (w : Newcomer) : Type 0 where
  pub asked : asked_of w ≡ (Ok tt)
  pub counts : 0 < w.id
  pub new : some (has_id w.id) ss ≡ false
  pub room : length ss < limit

pub record Added (ss : List Station) (w : Newcomer) (rs : List Station) : Type 0 where
  pub is : rs ≡ insert (entered w) ss
  pub passes : AddPasses ss w
  pub clear : some (conflicts (entered w)) ss ≡ false

pub added : (ss : List Station) (w : Newcomer) (rs : List Station) → decide ss (add w) ≡ Ok rs → Added ss w rs
unfolding decide
added ss w rs e =
    let v = passed _ _ rs e in
    let a = past _ _ _ _ v.1 (denied _ rs) in
    let b = past _ _ _ _ a.1 (denied _ rs) in
    let c = past _ _ _ _ b.1 (denied _ rs) in
    let d = past _ _ _ _ c.1 (denied _ rs) in
    let zero : w.id ≡ 0 → ⊥ = eqb-false w.id 0 a.0 in
    record {
      is = sym (same d.1);
      passes = record { asked = v.0; counts = omega arith; new = b.0; room = leb-false limit (length ss) d.0 };
      clear = c.0;
    }

-- ---- Withdraw

pub record Withdrawn (ss : List Station) (id : ℕ) (rs : List Station) : Type 0 where
  pub is : rs ≡ without id ss
  pub present : some (has_id id) ss ≡ true

pub withdrawn : (ss : List Station) (id : ℕ) (rs : List Station) → decide ss (withdraw id) ≡ Ok rs → Withdrawn ss id rs
unfolding decide
withdrawn ss id rs e =
    let a = past _ _ _ _ e (denied _ rs) in
    record { is = sym (same a.1); present = not_was _ a.0 }

-- ---- Move

-- past every refusal but 20, with the record that has the id
pub record MovePasses (ss : List Station) (id channel : ℕ) (from : Station) : Type 0 where
  pub low : 221 ≤ channel
  pub high : channel ≤ 300
  pub own : from.id ≡ id
  pub held : from ∈ ss
  pub free : movable from ≡ true

pub record Moved (ss : List Station) (id channel : ℕ) (rs : List Station) : Type 0 where
  pub is : rs ≡ rechannel id channel ss
  pub from : Station
  pub passes : MovePasses ss id channel from
  pub clear : some (conflicts (onto channel from)) ss ≡ false

pub moved : (ss : List Station) (id channel : ℕ) (rs : List Station) → decide ss (move id channel) ≡ Ok rs → Moved ss id channel rs
unfolding decide
moved ss id channel rs e =
    let a = past _ _ _ _ e (denied _ rs) in
    let w = or_was (ltb channel 221) (ltb 300 channel) a.0 in
    let f = with_found id _ _ ss (Ok rs) a.1 (denied _ rs) in
    let b = past _ _ _ _ f.3 (denied _ rs) in
    let c = past _ _ _ _ b.1 (denied _ rs) in
    record {
      is = sym (same c.1);
      from = f.0;
      passes = record { low = ltb-false channel 221 w.0; high = ltb-false 300 channel w.1; own = f.1; held = f.2; free = not_was _ b.0 };
      clear = c.0;
    }
