-- A granted change leaves every other record as it was: in the list, and byte for byte in the image. Assumes nothing.
use Rattle.std.specs.Prelude.{Ok}
use mathlib.Core.Path.{◌≡◌, sym, ap, ◌∙◌}
use mathlib.Core.Logic.{◌↔◌, inr, ⊎_elim}
use mathlib.Core.List.{List, ◌∷◌}
use Prim.Native.Nat.{ℕ, ◌+◌}
use native.Mathlib.Omega.{arith}
use lib.ListN.{length, drop}
use Rattle.ground.specs.Lists.{◌∈◌}
use Rattle.ground.proofs.Positions.{position, in_at}
use Rattle.stations.specs.Image.{station_at}
use Rattle.stations.specs.Encode.{encode}
use Rattle.stations.specs.declared.Station.{Station}
use Rattle.stations.proofs.Changed.{in_insert, in_without, other_rechannel}
use Rattle.stations.proofs.Whole.{whole, next}
use Rattle.stations.proofs.Cuts.{bytes_at_lem}
use Rattle.stations.proofs.Parts.{Valid, valid_image}
use Rattle.changes.specs.Changes.{Change, add, withdraw, move, entered, decide}
use Rattle.changes.specs.Meaning.{named, Keeps}
use Rattle.changes.proofs.Grants.{added, withdrawn, moved}

-- ---- in the list

-- a record whose id the change does not name stands in the granted list exactly when it stood in the table
pub kept : (ss : List Station) (c : Change) (rs : List Station) (x : Station) → decide ss c ≡ Ok rs → (x.id ≡ named c → ⊥) → (x ∈ ss) ↔ (x ∈ rs)
kept ss (add w) rs x e n =
    let k = in_insert (entered w) {x = x} ss in
    rw (added ss w rs e).is (λ m. k.1 (inr m), λ m. ⊎_elim (λ (q : x ≡ entered w). absurd (n (ap (λ (y : Station). y.id) q))) (λ (o : x ∈ ss). o) (k.0 m))
kept ss (withdraw id) rs x e n =
    let k = in_without id {x = x} ss in
    rw (withdrawn ss id rs e).is (λ m. k.1 (m, n), λ m. (k.0 m).0)
kept ss (move id channel) rs x e n = rw (moved ss id channel rs e).is (other_rechannel id channel ss n)

-- ---- in the image

-- who stands in one list and in another has the same bytes in the images of the two
pub keeps : (id : ℕ) (ss rs : List Station) → Valid ss → Valid rs → ((x : Station) → (x.id ≡ id → ⊥) → x ∈ ss → x ∈ rs) → Keeps id (encode ss) (encode rs)
keeps id ss rs v w over i l ne =
    let k = valid_image ss v in
    let s = whole (encode ss) (length ss) k.0 in
    let t = whole (encode rs) (length rs) (valid_image rs w).0 in
    let x = station_at (encode ss) i in
    let here : drop i ss ≡ x ∷ drop (i + 1) ss = rw k.1 at (next s i (omega (arith, l, s.counted))) in
    let p = position rs (over x ne (in_at ss i _ here)) in
    (p.0, omega (arith, p.1, t.counted), bytes_at_lem rs p.0 x p.2 p.3 ∙ sym (bytes_at_lem ss i x _ here))
