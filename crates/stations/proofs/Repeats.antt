-- Records that are twins: what they agree in, in either order, and by their bytes. What 27 says: a table that is not refused with it
-- has no two that are twins, and the position that it gives is that of the first that repeats an earlier one. Assumes nothing.
use Rattle.std.specs.Prelude.{Ok, Err}
use mathlib.Core.Path.{◌≡◌, refl, sym, ap, ◌∙◌}
use mathlib.Core.Logic.{◌↔◌}
use mathlib.Core.Bool.{true, ◌&&◌}
use mathlib.Core.List.{List}
use Prim.Native.Nat.{ℕ, ◌+◌, ◌*◌, ◌≤◌, ◌<◌}
use native.Mathlib.Omega.{arith}
use lib.Dec.{eqb}
use lib.ListN.{get_or}
use mir.Syntax.{w32}
use mir.Val.{to_z, of_z}
use mir.ValLaws.{of_z-to_z}
use borrow.Author.Tests.{eqb-true, eq-eqb, lt-ltb, le-ltb, ltb-true, ltb-false}
use Rattle.ground.specs.Signed.{eq_z}
use Rattle.ground.proofs.Guards.{here, on, past, taken, and_was}
use Rattle.ground.proofs.Tests.{iff}
use Rattle.ground.proofs.Signed.{eq_z_true, eq_z_same}
use Rattle.wire.specs.Be.{Bytes, be}
use Rattle.wire.proofs.Width.{be_lt}
use Rattle.wire.proofs.Le.{two-low, two-high, one_number}
use Rattle.refusals.specs.Faults.{Verdict, refusal}
use Rattle.refusals.specs.declared.Fault.{Fault}
use Rattle.refusals.specs.declared.Fault.TheVariants.{Repeated}
use Rattle.repeats.specs.Repeats.{FirstRepeat}
use Rattle.repeats.specs.Records.{place, high_at, subject_at, agrees}
use Rattle.repeats.proofs.First.{first_is, one_first}
use Rattle.repeats.proofs.Records.{Agreed, agree_is}
use Rattle.stations.specs.Image.{station_at, stations, count, faulty, then, twins_at, repeat_of, repeated, stages, table_of, judged}
use Rattle.stations.specs.Lists.{twins, NoPair}
use Rattle.stations.specs.Meaning.{Repeats}
use Rattle.stations.specs.declared.Station.{Station}
use Rattle.stations.proofs.Stages.{unsound, repeated-passed}
use Rattle.stations.proofs.Found.{Found, sound, fault, found-headed, found-scanned}
use Rattle.stations.proofs.Pairs.{no_pair_build}

-- ---- which records are twins

pub record Twins (a b : Station) : Type 0 where
  pub channel : a.channel ≡ b.channel
  pub class : a.class ≡ b.class
  pub latitude : a.latitude ≡ b.latitude
  pub longitude : a.longitude ≡ b.longitude

pub twins-are : (a b : Station) → (twins a b ≡ true) ↔ Twins a b
unfolding twins
twins-are a b = (
  λ e.
      let x = and_was (eqb a.channel b.channel && eqb a.class b.class && eq_z a.latitude b.latitude) (eq_z a.longitude b.longitude) e in
      let y = and_was (eqb a.channel b.channel && eqb a.class b.class) (eq_z a.latitude b.latitude) x.0 in
      let z = and_was (eqb a.channel b.channel) (eqb a.class b.class) y.0 in
      record { channel = eqb-true _ _ z.0; class = eqb-true _ _ z.1; latitude = eq_z_true _ _ y.1; longitude = eq_z_true _ _ x.1 },
  λ w. rw (eq-eqb _ _ w.channel, eq-eqb _ _ w.class, w.latitude, w.longitude, eq_z_same b.latitude, eq_z_same b.longitude),
)

pub twins_either : (a b : Station) → twins a b ≡ twins b a
twins_either a b = iff (twins a b) (twins b a) (over a b) (over b a)
  where
    over : (a b : Station) → twins a b ≡ true → twins b a ≡ true
    over a b e =
        let w = (twins-are a b).0 e in
        (twins-are b a).1 (record { channel = sym w.channel; class = sym w.class; latitude = sym w.latitude; longitude = sym w.longitude })

-- ---- by their bytes

module _ (s : List ℕ) (b : Bytes s) where
  -- channel and class are three bytes, of which the first is the high byte and the others are one number
  channel_is : (i : ℕ) → (station_at s i).channel ≡ high_at s i * 256 + get_or s (place i + 5) 0
  unfolding station_at
  channel_is i = let e : place i + 4 + 1 ≡ place i + 5 = omega arith in rw e at (two-high s (place i + 4))

  kind_is : (i : ℕ) → (subject_at s i).kind ≡ (station_at s i).class * 256 + get_or s (place i + 5) 0
  unfolding station_at
  kind_is i = let e : place i + 5 + 1 ≡ place i + 6 = omega arith in rw e at (two-low s (place i + 5))

  -- so two records have the same channel and class exactly where they have the same high byte and the same such number
  one_kind : (i j : ℕ) → (((station_at s i).channel ≡ (station_at s j).channel) × ((station_at s i).class ≡ (station_at s j).class)) ↔ ((high_at s i ≡ high_at s j) × ((subject_at s i).kind ≡ (subject_at s j).kind))
  one_kind i j =
      let x = b (place i + 5) in
      let y = b (place j + 5) in (
        λ w. let c = w.0 in let d = w.1 in (omega (arith, channel_is i, channel_is j), omega (arith, channel_is i, channel_is j, kind_is i, kind_is j)),
        λ w. let h = w.0 in let k = w.1 in (omega (arith, channel_is i, channel_is j, kind_is i, kind_is j), omega (arith, kind_is i, kind_is j)),
      )

  -- the bits of a signed number
  bits_are : (at : ℕ) → of_z w32 (to_z w32 (be 4 s at)) ≡ be 4 s at
  bits_are at = of_z-to_z w32 (be 4 s at) (record { fits = omega (arith, be_lt 4 s at b) })

  module _ (i j : ℕ) where
    to_bytes : Twins (station_at s i) (station_at s j) → Agreed s i j
    unfolding station_at
    to_bytes w =
        record {
          north = (one_number s b 4 _ _).1 (sym (bits_are (place i + 8)) ∙ ap (of_z w32) w.latitude ∙ bits_are (place j + 8));
          east = (one_number s b 4 _ _).1 (sym (bits_are (place i + 12)) ∙ ap (of_z w32) w.longitude ∙ bits_are (place j + 12));
          kind = ((one_kind i j).0 (w.channel, w.class)).1;
          high = ((one_kind i j).0 (w.channel, w.class)).0;
        }

    from_bytes : Agreed s i j → Twins (station_at s i) (station_at s j)
    unfolding station_at
    from_bytes a =
        record {
          channel = ((one_kind i j).1 (a.high, a.kind)).0;
          class = ((one_kind i j).1 (a.high, a.kind)).1;
          latitude = ap (to_z w32) ((one_number s b 4 _ _).0 a.north);
          longitude = ap (to_z w32) ((one_number s b 4 _ _).0 a.east);
        }

    pub twins-bytes : twins_at s i j ≡ agrees s i j
    unfolding twins_at
    twins-bytes =
        let k = twins-are (station_at s i) (station_at s j) in
        let l = agree_is s i j in
        iff (twins (station_at s i) (station_at s j)) (agrees s i j) (λ e. l.1 (to_bytes (k.0 e))) (λ e. k.1 (from_bytes (l.0 e)))

-- ---- the stage of 27

module _ (s : List ℕ) where
  -- it is the position that the facts say
  pub repeat_is : (r : ℕ) → FirstRepeat (twins_at s) (count s) r → r ≡ repeat_of s
  unfolding repeat_of
  repeat_is r w = one_first (twins_at s) w (first_is (twins_at s) (count s))

  pub repeat_found : (r : ℕ) → r ≡ repeat_of s → r < count s → faulty (Repeated r) ≡ repeated s
  unfolding repeated
  repeat_found r e h = rw e (here _ _ _ (lt-ltb (repeat_of s) (count s) (omega arith)) refl)

  pub repeat_none : (r : ℕ) → r ≡ repeat_of s → count s ≤ r → (Ok tt) ≡ repeated s
  unfolding repeated
  repeat_none r e h = on _ _ _ (le-ltb (repeat_of s) (count s) (omega arith)) refl

  -- the stage is passed exactly where no two records are twins
  pub unrepeated : (repeated s ≡ (Ok tt)) ↔ NoPair twins (stations s)
  unfolding repeated repeat_of stations twins_at
  unrepeated =
      let k = no_pair_build twins (count s) (station_at s) in
      let w = first_is (twins_at s) (count s) in (
        λ e.
            let h = ltb-false (repeat_of s) (count s) (past _ _ _ _ e (unsound _)).0 in
            k.1 (λ i j l m. twins_either (station_at s i) (station_at s j) ∙ w.before j (omega (arith, w.upto)) i l),
        λ c.
            let none : FirstRepeat (twins_at s) (count s) (count s) =
            record { upto = omega arith; before = λ i h j l. twins_either (station_at s i) (station_at s j) ∙ k.0 c j i l h; earlier = λ h. absurd (omega arith) } in
            sym (repeat_none (count s) (repeat_is (count s) none) (omega arith)),
      )

-- an accepted table has no two records that are twins
pub no_repeats : (s : List ℕ) (n : ℕ) → judged s ≡ Ok n → NoPair twins (stations s)
no_repeats s n e = (unrepeated s).0 (repeated-passed s n e)

-- ---- the refusal 27

refused_by : (v : Verdict) (n : ℕ) (f : Fault) → table_of v n ≡ Err f → v ≡ Err f
refused_by (Ok tt) n f e = let z : ◌≡◌ {A = ℕ} 0 1 = cc in absurd (omega arith)
refused_by (Err g) n f e = cc

-- a stage with lower numbers only was passed
passed_by : {n : ℕ} {v : Verdict} (w : Verdict) (f : Fault) → Found n v → n ≤ (refusal f).number → then v w ≡ Err f → (v ≡ (Ok tt)) × (w ≡ Err f)
passed_by w f sound h e = (refl, e)
passed_by w f (fault g l) h e = let z : (refusal g).number ≡ (refusal f).number = cc in absurd (omega arith)

module _ (s : List ℕ) where
  pub refused_27 : (f : Fault) → judged s ≡ Err f → (refusal f).number ≡ 27 → Repeats s (refusal f).extra
  unfolding judged stages repeated repeat_of
  refused_27 f e h =
      let a = passed_by _ f (found-headed 27 (omega arith) s) (omega arith) (refused_by _ (count s) f e) in
      let b = passed_by _ f (found-scanned 27 (omega arith) s) (omega arith) a.1 in
      let c = passed_on (repeated s) f b.1 in
      let d = taken _ _ _ _ c (λ z. unsound f (sym z)) in
      let q : repeat_of s ≡ (refusal f).extra = extras d.1 in
      record {
        headed = a.0;
        sound = b.0;
        within = rw q at (ltb-true (repeat_of s) (count s) d.0);
        first = rw q at (first_is (twins_at s) (count s));
      }
    where
      passed_on : (v : Verdict) (f : Fault) → then v (Ok tt) ≡ Err f → v ≡ Err f
      passed_on (Ok _) f e = e
      passed_on (Err g) f e = e

      extras : {f g : Fault} → ◌≡◌ {A = Verdict} (Err f) (Err g) → (refusal f).extra ≡ (refusal g).extra
      extras e = cc

  -- and where nothing else is wrong and a record repeats an earlier one, it is given
  pub given_27 : (i : ℕ) → Repeats s i → judged s ≡ Err (Repeated i)
  unfolding judged stages
  given_27 i w = rw (w.headed, w.sound, ← repeat_found s i (repeat_is s i w.first) w.within)
