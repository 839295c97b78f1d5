-- 02, R-3: the version that a granted change writes. Add and Withdraw change it where they cross the line. Assumes nothing.
use Rattle.std.specs.Prelude.{Ok}
use mathlib.Core.Path.{◌≡◌, sym, ap, ◌∙◌}
use mathlib.Core.List.{List}
use Prim.Native.Nat.{ℕ, ◌+◌, ◌^◌, ◌<◌}
use native.Mathlib.Omega.{arith}
use lib.ListN.{length, take}
use Rattle.wire.specs.Be.{Bytes}
use Rattle.versions.specs.Version.{line, version_for}
use Rattle.versions.proofs.Versions.{calls_one, calls_two}
use Rattle.stations.specs.Image.{stations, version, count}
use Rattle.stations.specs.Encode.{version_of}
use Rattle.stations.proofs.Changed.{length_insert, one_less, length-rechannel}
use Rattle.stations.proofs.Whole.{whole, length-stations, version_called}
use Rattle.stations.proofs.Places.{ids_ascend}
use Rattle.desk.specs.Answers.{Answered}
use Rattle.changes.specs.Changes.{Change, add, withdraw, move, entered, changed_for}
use Rattle.changes.specs.Meaning.{Leaves}
use Rattle.changes.specs.declared.Newcomer.{Newcomer}
use Rattle.changes.proofs.Grants.{added, withdrawn, moved}
use Rattle.changes.proofs.Results.{granted_result, granted-change}

-- the version of what a change leaves is the one that so many records as are left call for
left_version : {s : List ℕ} {c : Change} {t : List ℕ} (l : Leaves s c t) → version t ≡ version_for (length l.list)
unfolding version_of
left_version {t = t} l = version_called (whole t (count t) l.accepted) ∙ ap version_of l.has

module _ (s : List ℕ) (b : Bytes s) (entry exit : List ℕ) (n : ℕ) where
  -- Add to a list of 2,000 writes version 2
  pub add_crosses : (w : Newcomer) → w.id < 2 ^ 32 → Answered (changed_for s (add w)) entry exit (Ok n) → count s ≡ line → version (take n exit) ≡ 2
  add_crosses w h a e =
      let g = granted_result s (add w) entry exit n a in
      let l = granted-change s (add w) entry exit n b h a in
      let m : length l.list ≡ line + 1 =
      ap length (added (stations s) w l.list l.granted).is ∙ length_insert (entered w) (stations s) ∙ ap (λ (k : ℕ). k + 1) (length-stations (whole s (count s) g.accepted) ∙ e) in
      left_version l ∙ calls_two (length l.list) (omega (arith, m))

  -- Withdraw from one of 2,001 writes version 1
  pub withdraw_crosses : (id : ℕ) → id < 2 ^ 32 → Answered (changed_for s (withdraw id)) entry exit (Ok n) → count s ≡ line + 1 → version (take n exit) ≡ 1
  withdraw_crosses id h a e =
      let g = granted_result s (withdraw id) entry exit n a in
      let l = granted-change s (withdraw id) entry exit n b h a in
      let w = withdrawn (stations s) id l.list l.granted in
      let m : length l.list ≡ line =
      omega (arith, ap length w.is, one_less id (stations s) (ids_ascend s (count s) g.accepted) w.present, length-stations (whole s (count s) g.accepted), e) in
      left_version l ∙ calls_one (length l.list) (omega (arith, m))

  -- Move keeps the version
  pub move_keeps : (id channel : ℕ) → id < 2 ^ 32 → Answered (changed_for s (move id channel)) entry exit (Ok n) → version (take n exit) ≡ version s
  unfolding version_of
  move_keeps id channel h a =
      let g = granted_result s (move id channel) entry exit n a in
      let l = granted-change s (move id channel) entry exit n b h a in
      let m : length l.list ≡ length (stations s) = ap length (moved (stations s) id channel l.list l.granted).is ∙ length-rechannel id channel (stations s) in
      left_version l ∙ ap version_for m ∙ sym (version_called (whole s (count s) g.accepted))
