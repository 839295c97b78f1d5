-- Lists of stations that may stand in a table, no twins among them: their image is accepted, and has them. Such are the stations of an accepted
-- table, those of them that pass a test, and those with a record set in or on another channel. Assumes nothing.
use Rattle.std.specs.Prelude.{Ok}
use mathlib.Core.Path.{◌≡◌}
use mathlib.Core.Logic.{⊎_elim}
use mathlib.Core.Bool.{Bool, false, not}
use mathlib.Core.List.{List}
use Prim.Native.Nat.{ℕ, ◌*◌, ◌+◌, ◌^◌, ◌≤◌, ◌<◌}
use native.Mathlib.Omega.{arith}
use lib.ListN.{length}
use Rattle.ground.specs.Lists.{◌∈◌, keep, some}
use Rattle.ground.proofs.Cases.{either}
use Rattle.ground.proofs.Keeps.{length-keep}
use Rattle.ground.proofs.Order.{in_keep, ascending_keep}
use Rattle.ground.proofs.Positions.{in_build}
use Rattle.wire.specs.Be.{Bytes}
use Rattle.wire.proofs.Width.{be_lt}
use Rattle.versions.specs.Version.{top, limit}
use Rattle.versions.proofs.Versions.{one_top}
use Rattle.stations.specs.Image.{station_at, stations, version, count, judged}
use Rattle.stations.specs.Encode.{version_of, encode}
use Rattle.stations.specs.Lists.{has_id, twins, insert, without, onto, onto_if, rechannel, NoPair}
use Rattle.stations.specs.declared.Station.{Station}
use Rattle.stations.proofs.Changed.{in_insert, ascends_insert, length_insert, in_rechannel, ascends_rechannel, length-rechannel}
use Rattle.stations.proofs.Whole.{whole, length-stations}
use Rattle.stations.proofs.Fine.{Fine, Good, good}
use Rattle.stations.proofs.Pairs.{no_pair_keep}
use Rattle.stations.proofs.Repeats.{no_repeats}
use Rattle.stations.proofs.Back.{SmallIds, image-sound}

pub record Valid (rs : List Station) : Type 0 where
  pub good : Good (top (version_of rs)) rs
  pub few : length rs ≤ limit
  pub small : SmallIds rs
  pub single : NoPair twins rs

-- of records that any version carries
pub valid : (v : ℕ) (rs : List Station) → Good (top v) rs → length rs ≤ limit → SmallIds rs → NoPair twins rs → Valid rs
valid v rs g few small single =
    record {
      good = record {
        each = λ x m.
            let f = g.each x m in
            record { counts = f.counts; low = f.low; high = f.high; class = f.class; flags = rw (one_top (version_of rs) v) f.flags; placed = f.placed };
        ascends = g.ascends;
      };
      few = few;
      small = small;
      single = single;
    }

-- the image of a valid list is accepted, and has its stations
pub valid_image : (rs : List Station) → Valid rs → (judged (encode rs) ≡ Ok (length rs)) × (stations (encode rs) ≡ rs)
valid_image rs k = image-sound rs k.few k.good k.small k.single

-- ---- of an accepted table

-- ids of four bytes
small_ids : (s : List ℕ) → Bytes s → SmallIds (stations s)
unfolding stations station_at
small_ids s b x m =
    let p = in_build (count s) (station_at s) m in
    rw p.2 (omega (arith, be_lt 4 s (8 + 16 * p.0) b))

pub valid_table : (s : List ℕ) → Bytes s → (n : ℕ) → judged s ≡ Ok n → Valid (stations s)
valid_table s b n e =
    let w = whole s n e in
    valid (version s) (stations s) (good s n e) (omega (arith, w.few, length-stations w)) (small_ids s b) (no_repeats s n e)

-- ---- those that pass a test

pub valid_keep : (p : Station → Bool) (ss : List Station) → Valid ss → Valid (keep p ss)
valid_keep p ss k =
    valid (version_of ss) (keep p ss)
    (record { each = λ x m. k.good.each x ((in_keep p ss).0 m).0; ascends = ascending_keep p ss k.good.ascends })
    (omega (arith, k.few, length-keep p ss))
    (λ x m. k.small x ((in_keep p ss).0 m).0)
    (no_pair_keep twins p ss k.single)

pub valid_without : (id : ℕ) (ss : List Station) → Valid ss → Valid (without id ss)
unfolding without
valid_without id ss k = valid_keep (λ x. not (has_id id x)) ss k

-- the table of those stations of an accepted one is accepted, and has just them
pub part_image : (p : Station → Bool) (s : List ℕ) → Bytes s → (n : ℕ) → judged s ≡ Ok n → let rs = keep p (stations s) in (judged (encode rs) ≡ Ok (length rs)) × (stations (encode rs) ≡ rs)
part_image p s b n e = valid_image (keep p (stations s)) (valid_keep p (stations s) (valid_table s b n e))

-- ---- with a record set in

pub valid_insert : (r : Station) (ss : List Station) → Fine (top (version_of ss)) r → r.id < 2 ^ 32 → some (has_id r.id) ss ≡ false → length ss < limit → NoPair twins (insert r ss) → Valid ss → Valid (insert r ss)
valid_insert r ss f h new room single k =
    valid (version_of ss) (insert r ss)
    (record {
      each = λ x m. ⊎_elim (λ (q : x ≡ r). rw q f) (λ (n : x ∈ ss). k.good.each x n) ((in_insert r ss).0 m);
      ascends = ascends_insert r ss new k.good.ascends;
    })
    (omega (arith, length_insert r ss))
    (λ x m. ⊎_elim (λ (q : x ≡ r). rw q h) (λ (n : x ∈ ss). k.small x n) ((in_insert r ss).0 m))
    single

-- ---- with a record on another channel

pub valid_rechannel : (id channel : ℕ) (ss : List Station) → 201 ≤ channel → channel ≤ 300 → NoPair twins (rechannel id channel ss) → Valid ss → Valid (rechannel id channel ss)
valid_rechannel id channel ss low high single k =
    valid (version_of ss) (rechannel id channel ss)
    (record {
      each = λ x m. let o = in_rechannel id channel ss m in rw o.2 (fine_onto o.0 (k.good.each o.0 o.1));
      ascends = ascends_rechannel id channel ss k.good.ascends;
    })
    (omega (arith, k.few, length-rechannel id channel ss))
    (λ x m. let o = in_rechannel id channel ss m in rw o.2 (small_onto o.0 (k.small o.0 o.1)))
    single
  where
    fine_onto : {t : ℕ} (y : Station) → Fine t y → Fine t (onto_if id channel y)
    fine_onto {t} y f = either (Fine t) (has_id id y) (onto channel y) y (λ _. record { counts = f.counts; low = low; high = high; class = f.class; flags = f.flags; placed = f.placed }) (λ _. f)

    small_onto : (y : Station) → y.id < 2 ^ 32 → (onto_if id channel y).id < 2 ^ 32
    small_onto y h = either (λ (z : Station). z.id < 2 ^ 32) (has_id id y) (onto channel y) y (λ _. h) (λ _. h)
