-- What a result of Add, Withdraw or Move says: one result meets the promise, and what a granted one leaves. Assumes nothing.
use Rattle.std.specs.Prelude.{Ok, Err}
use mathlib.Core.Path.{◌≡◌, refl, sym, ap, ◌∙◌}
use mathlib.Core.Bool.{Bool, true, false}
use mathlib.Core.List.{List, ◌++◌}
use Prim.Native.Nat.{ℕ, ◌^◌, ◌<◌}
use lib.Dec.{ltb}
use lib.ListN.{length, take, drop}
use lib.Seq.{take_at}
use Rattle.ground.specs.Guard.{given}
use Rattle.refusals.specs.Faults.{Answer}
use Rattle.refusals.specs.declared.Fault.{Fault}
use Rattle.refusals.specs.declared.Fault.TheVariants.{DoesNotFit}
use Rattle.wire.specs.Be.{Bytes}
use Rattle.stations.specs.Image.{stations, count, judged, Accepted}
use Rattle.stations.specs.Encode.{encode}
use Rattle.stations.specs.declared.Station.{Station}
use Rattle.stations.proofs.Stages.{is_accepted}
use Rattle.stations.proofs.Image.{image_of}
use Rattle.stations.proofs.Parts.{valid_image, valid_table}
use Rattle.desk.specs.Answers.{grant, on_table, Answered}
use Rattle.desk.proofs.Answers.{one_answer}
use Rattle.changes.specs.Changes.{Change, Decision, decide, written, changed_for}
use Rattle.changes.specs.Meaning.{named, Leaves}
use Rattle.changes.proofs.Valid.{granted_valid}
use Rattle.changes.proofs.Kept.{kept, keeps}

-- two results that meet the promise for the same inputs are equal
pub one_result : (s : List ℕ) (c : Change) {entry exit exit' : List ℕ} {r r' : Answer} → Answered (changed_for s c) entry exit r → Answered (changed_for s c) entry exit' r' → (exit ≡ exit') × (r ≡ r')
one_result s c a b = one_answer a b

-- a granted result: the table was accepted, and the buffer holds the image of the granted list from its start
pub record Left (s : List ℕ) (c : Change) (entry exit : List ℕ) (n : ℕ) : Type 0 where
  pub accepted : Accepted s
  pub list : List Station
  pub allowed : decide (stations s) c ≡ Ok list
  pub long : n ≡ length (encode list)
  pub holds : exit ≡ encode list ++ drop n entry

refused : (f : Fault) (n : ℕ) → ◌≡◌ {A = Answer} (Ok n) (Err f) → ⊥
refused f n e = cc

same : {m n : ℕ} → ◌≡◌ {A = Answer} (Ok m) (Ok n) → m ≡ n
same e = cc

-- what was granted, and that it fits
fitted : (vs entry exit : List ℕ) (n : ℕ) → Answered (grant vs) entry exit (Ok n) → (n ≡ length vs) × (exit ≡ vs ++ drop n entry)
unfolding given
fitted vs entry exit n a = go (ltb (length entry) (length vs)) refl
  where
    go : (b : Bool) → ltb (length entry) (length vs) ≡ b → (n ≡ length vs) × (exit ≡ vs ++ drop n entry)
    go true e = absurd (refused (DoesNotFit (length vs)) n (a.said ∙ rw e))
    go false e =
        let k : n ≡ length vs = same (a.said ∙ rw e) in
        (k, a.held ∙ rw (e, k))

pub granted_result : (s : List ℕ) (c : Change) (entry exit : List ℕ) (n : ℕ) → Answered (changed_for s c) entry exit (Ok n) → Left s c entry exit n
unfolding changed_for
granted_result s c entry exit n a = by_judged (judged s) (decide (stations s) c) refl refl a
  where
    by_judged : (j : Answer) (d : Decision) → judged s ≡ j → decide (stations s) c ≡ d → Answered (on_table j (written d)) entry exit (Ok n) → Left s c entry exit n
    by_judged (Ok m) (Ok rs) e f a = let k = fitted (encode rs) entry exit n a in record { accepted = is_accepted s m e; list = rs; allowed = f; long = k.0; holds = k.1 }
    by_judged (Ok m) (Err g) e f a = absurd (refused g n a.said)
    by_judged (Err g) d e f a = absurd (refused g n a.said)

-- a granted result of a table of bytes: the buffer starts with the image of the granted list, which is accepted and has that
-- list, and in which every other record stands as it was
pub granted-change : (s : List ℕ) (c : Change) (entry exit : List ℕ) (n : ℕ) → Bytes s → named c < 2 ^ 32 → Answered (changed_for s c) entry exit (Ok n) → Leaves s c (take n exit)
granted-change s c entry exit n b h a =
    let l = granted_result s c entry exit n a in
    let rs = l.list in
    let v = valid_table s b (count s) l.accepted in
    let w = granted_valid (stations s) c rs h v l.allowed in
    let k = valid_image rs w in
    let own = image_of s b (count s) l.accepted in
    let t : take n exit ≡ encode rs = ap (take n) l.holds ∙ take_at (encode rs) (drop n entry) n (sym l.long) in
    rw t
    (record {
      list = rs;
      granted = l.allowed;
      image = refl;
      accepted = is_accepted (encode rs) (length rs) k.0;
      has = k.1;
      stay = rw own at (keeps (named c) (stations s) rs v w (λ x ne. (kept (stations s) c rs x l.allowed ne).0));
      only = rw own at (keeps (named c) rs (stations s) w v (λ x ne. (kept (stations s) c rs x l.allowed ne).1));
    })
