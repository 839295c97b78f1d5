-- A granted list may stand in a table. Assumes nothing.
use Rattle.std.specs.Prelude.{Ok}
use mathlib.Core.Path.{◌≡◌}
use mathlib.Core.List.{List}
use Prim.Native.Nat.{◌^◌, ◌<◌}
use native.Mathlib.Omega.{arith}
use Rattle.versions.specs.Version.{top}
use Rattle.stations.specs.Encode.{version_of}
use Rattle.stations.specs.Lists.{twins, NoPair}
use Rattle.stations.specs.declared.Station.{Station}
use Rattle.stations.proofs.Parts.{Valid, valid_insert, valid_without, valid_rechannel}
use Rattle.changes.specs.Changes.{Change, add, withdraw, move, entered, decide}
use Rattle.changes.specs.Meaning.{named}
use Rattle.changes.proofs.Grants.{added, withdrawn, moved}
use Rattle.changes.proofs.Clean.{fine_entered, single}

pub granted_valid : (ss : List Station) (c : Change) (rs : List Station) → named c < 2 ^ 32 → Valid ss → decide ss c ≡ Ok rs → Valid rs
granted_valid ss c rs h k e = by_change c h e (single (top (version_of ss)) ss k.good c rs k.single e)
  where
    by_change : (c : Change) → named c < 2 ^ 32 → decide ss c ≡ Ok rs → NoPair twins rs → Valid rs
    by_change (add w) h e n =
        let a = added ss w rs e in
        let p = a.passes in
        rw a.is (valid_insert (entered w) ss (fine_entered (top (version_of ss)) ss w p).0 h p.new p.room (rw a.is at n) k)
    by_change (withdraw id) h e n = rw (withdrawn ss id rs e).is (valid_without id ss k)
    by_change (move id channel) h e n =
        let a = moved ss id channel rs e in
        rw a.is (valid_rechannel id channel ss (omega (arith, a.passes.low)) a.passes.high (rw a.is at n) k)
