-- What a question that passed its own checks tells, and what these can find. Assumes nothing.
use Rattle.std.specs.Prelude.{Ok, Err}
use mathlib.Core.Path.{◌≡◌}
use mathlib.Core.Bool.{true}
use Prim.Native.Nat.{ℕ, ◌≤◌, ◌<◌}
use native.Mathlib.Omega.{arith}
use lib.Dec.{leb, ltb}
use lib.IntN.{ℤ, nat_abs}
use borrow.Author.Tests.{leb-true, ltb-false, not-false}
use Rattle.ground.proofs.Guards.{past, or_was, and_was}
use Rattle.ground.proofs.Cases.{either}
use Rattle.distance.specs.Distance.{latitude_ok, longitude_ok, Placed}
use Rattle.part73.specs.Classes.{is_class}
use Rattle.refusals.specs.Faults.{Verdict}
use Rattle.refusals.specs.declared.Fault.{Fault}
use Rattle.refusals.specs.declared.Fault.TheVariants.{AskedChannel, AskedClass, AskedZone, NotPermitted, AskedSite}
use Rattle.stations.proofs.Stages.{then-sound}
use Rattle.stations.proofs.Found.{Found, sound, fault, found-then}
use Rattle.desk.specs.Asked.{outside, site_ok, class_fault, kind_fault, site_fault, asked_fault}

never : (f : Fault) → ◌≡◌ {A = Verdict} (Err f) (Ok tt) → ⊥
never f e = let z : ◌≡◌ {A = ℕ} 0 1 = cc in omega arith

pub site-placed : (latitude longitude : ℤ) → site_ok latitude longitude ≡ true → Placed latitude longitude
unfolding site_ok latitude_ok longitude_ok
site-placed latitude longitude e =
    let h = and_was _ (leb (nat_abs longitude) 648000) e in
    record { north = leb-true (nat_abs latitude) 270000 h.0; east = leb-true (nat_abs longitude) 648000 h.1 }

pub class-known : (class zone : ℕ) → class_fault class zone ≡ (Ok tt) → class < 8
unfolding class_fault is_class
class-known class zone e = let a = past _ _ _ _ e (never _) in omega (arith, leb-true class 7 (not-false _ a.0))

pub site-sound : (latitude longitude : ℤ) → site_fault latitude longitude ≡ (Ok tt) → Placed latitude longitude
unfolding site_fault
site-sound latitude longitude e = let a = past _ _ _ _ e (never _) in site-placed latitude longitude (not-false _ a.0)

-- new channels from 221 to 300, and a class
pub record Kind (first last class : ℕ) : Type 0 where
  pub low : 221 ≤ first
  pub order : first ≤ last
  pub high : last ≤ 300
  pub known : class < 8

pub kind : (first last class zone : ℕ) → kind_fault first last class zone ≡ (Ok tt) → Kind first last class
unfolding kind_fault
kind first last class zone e =
    let a = past _ _ _ _ e (never _) in
    let r = or_was _ _ a.0 in
    let q = or_was (outside first) (outside last) r.0 in
    let f = or_was (ltb first 221) (ltb 300 first) q.0 in
    let l = or_was (ltb last 221) (ltb 300 last) q.1 in
    record {
      low = ltb-false first 221 f.0;
      order = ltb-false last first r.1;
      high = ltb-false 300 last l.1;
      known = class-known class zone a.1;
    }

-- and a site in range
pub record Fair (first last class : ℕ) (latitude longitude : ℤ) : Type 0 where
  pub kind : Kind first last class
  pub placed : Placed latitude longitude

pub fair : (first last class zone : ℕ) (latitude longitude : ℤ) → asked_fault first last class zone latitude longitude ≡ (Ok tt) → Fair first last class latitude longitude
unfolding asked_fault
fair first last class zone latitude longitude e =
    let v = then-sound (kind_fault first last class zone) (site_fault latitude longitude) e in
    record { kind = kind first last class zone v.0; placed = site-sound latitude longitude v.1 }

-- ---- what can be found

module _ (n : ℕ) (above : 17 < n) where
  pub found_kind : (first last class zone : ℕ) → Found n (kind_fault first last class zone)
  unfolding kind_fault class_fault
  found_kind first last class zone =
      either (Found n) _ _ _ (λ _. fault AskedChannel (omega arith))
      (λ _. either (Found n) _ _ _ (λ _. fault AskedClass (omega arith))
      (λ _. either (Found n) _ _ _ (λ _. fault AskedZone (omega arith))
      (λ _. either (Found n) _ _ _ (λ _. fault NotPermitted (omega arith)) (λ _. sound))))

  pub found-site : (latitude longitude : ℤ) → Found n (site_fault latitude longitude)
  unfolding site_fault
  found-site latitude longitude = either (Found n) _ _ _ (λ _. fault AskedSite (omega arith)) (λ _. sound)

  pub found-asked : (first last class zone : ℕ) (latitude longitude : ℤ) → Found n (asked_fault first last class zone latitude longitude)
  unfolding asked_fault
  found-asked first last class zone latitude longitude = found-then (found_kind first last class zone) (found-site latitude longitude)
