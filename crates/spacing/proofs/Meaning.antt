-- What the pair rule means: a pair is short exactly as the owner words it, in either order, and on the 180th meridian by either
-- longitude; no pair at or below 220, and none at another difference than 0, 1, 2, 3, 53 and 54, is short. Over any table of
-- separations. Assumes nothing.
use mathlib.Core.Path.{◌≡◌, refl, sym, ap, ◌∙◌}
use mathlib.Core.Logic.{◌↔◌, ◌⊎◌, inl, inr}
use mathlib.Core.Bool.{Bool, true, false, and_comm, true≢false}
use Prim.Native.Nat.{ℕ, ◌+◌, ◌-◌, ◌≤◌, ◌<◌}
use native.Mathlib.Nat.{add_comm, lt_of_le_of_lt}
use native.Mathlib.Decide.{dec_lt}
use native.Mathlib.Omega.{arith}
use lib.Dec.{leb, lit<}
use lib.IntN.{ℤ, pos, negsuc}
use borrow.Author.Tests.{ltb-true, lt-ltb}
use Rattle.ground.specs.Guard.{given}
use Rattle.distance.specs.Distance.{Placed, Rounded, D, root}
use Rattle.distance.proofs.Meridian.{S_meridian}
use Rattle.distance.proofs.Rounding.{D_is, unique}
use Rattle.distance.proofs.Squares.{S_sym, S-here, S-size}
use Rattle.part73.specs.Columns.{gap, none, column}
use Rattle.part73.specs.Separations.{Separations}
use Rattle.part73.specs.TableA.{table_a}
use Rattle.part73.proofs.Facts.{column_none, table-a}
use Rattle.spacing.specs.Pair.{Assignment, assignment, sited, exempt, column_for, separation, square_of, distance_of, short_by, short}
use Rattle.spacing.specs.Meaning.{HeldShort}
use Rattle.spacing.specs.Reaching.{hits, Reaches}
use Rattle.spacing.specs.declared.Place.{Place}
use Rattle.spacing.specs.declared.Reach.{Reach}
use Rattle.spacing.proofs.Rule.{column-most, for_open, for_exempt, for_some, exempt-low, open_high, by_none}

gap_swap : (x y : ℕ) → gap x y ≡ gap y x
unfolding gap
gap_swap x y = add_comm (x - y) (y - x)

exempt_swap : (x y : ℕ) → exempt x y ≡ exempt y x
unfolding exempt
exempt_swap x y = and_comm (leb x 220) (leb y 220)

column_swap : (x y : ℕ) → column_for x y ≡ column_for y x
unfolding column_for
column_swap x y = rw (exempt_swap x y, gap_swap x y)

column_other : (x y : ℕ) → 3 < gap x y → (gap x y ≡ 53 → ⊥) → (gap x y ≡ 54 → ⊥) → column_for x y ≡ none
column_other x y h n m = go (exempt x y) refl
  where
    go : (b : Bool) → exempt x y ≡ b → column_for x y ≡ none
    go true e = for_exempt x y e
    go false e = for_open x y e ∙ column_none (gap x y) h n m

-- of two channels that are not exempt one is above 220
above_220 : (x y : ℕ) → exempt x y ≡ false → (220 < x) ⊎ (220 < y)
above_220 x y e = go (dec_lt 220 x) (dec_lt 220 y)
  where
    go : Dec (220 < x) → Dec (220 < y) → (220 < x) ⊎ (220 < y)
    go (yes h) k = inl h
    go (no n) (yes k) = inr k
    go (no n) (no m) = absurd (true≢false (sym (exempt-low x y (omega arith) (omega arith)) ∙ e))

-- a station on the 180th meridian is short to the same others by either of its longitudes
pub short_meridian : (km : ℕ → ℕ → ℕ → ℕ) (channel class : ℕ) (latitude : ℤ) (q : Assignment) → Placed q.latitude q.longitude → short_by km (assignment channel class latitude (pos 648000)) q ≡ short_by km (assignment channel class latitude (negsuc 647999)) q
unfolding short_by separation distance_of square_of
short_meridian km channel class latitude q placed = rw (S_meridian latitude q.latitude q.longitude placed.east)

module _ {km : ℕ → ℕ → ℕ → ℕ} (table : Separations km) where
  -- either order of the pair
  pub short_either : (p q : Assignment) → short_by km p q ≡ short_by km q p
  unfolding short_by separation distance_of square_of
  short_either p q =
      rw (S_sym p.latitude p.longitude q.latitude q.longitude, column_swap p.channel q.channel, table.either p.class q.class (column_for q.channel p.channel))

  pub reaches_either : {p q : Place} {r : Reach} → Reaches km p q r → Reaches km q p r
  reaches_either {p} {q} {r} w =
      record { most = w.most; tells = λ x y e. short_either (sited q x) (sited p y) ∙ (w.tells y x (exempt_swap y x ∙ e) ∙ ap (hits r) (gap_swap y x)) }

  -- two stations of one class, at one site on one channel above 220
  pub always_same : (p : Assignment) → p.class < 8 → 220 < p.channel → short_by km p p ≡ true
  unfolding short_by separation distance_of square_of gap column given D root
  always_same p known high =
      let x = p.channel in
      let none : (x - x) + (x - x) ≡ 0 = omega arith in
      rw (S-here p.latitude p.longitude, for_open x x (open_high x x (inl high)), none) (lt-ltb _ _ (table.above p.class p.class 0 known known (omega arith)))

  module _ (p q : Assignment) (known : p.class < 8) (known' : q.class < 8) where
    without : column_for p.channel q.channel ≡ none → short_by km p q ≡ false
    unfolding short_by separation distance_of
    without e = rw e (by_none table p.class q.class known known' (square_of p q))

    -- a pair with both channels at or below 220
    pub never_low : p.channel ≤ 220 → q.channel ≤ 220 → short_by km p q ≡ false
    never_low h k = without (for_exempt p.channel q.channel (exempt-low p.channel q.channel h k))

    -- any other difference
    pub never_other : 3 < gap p.channel q.channel → (gap p.channel q.channel ≡ 53 → ⊥) → (gap p.channel q.channel ≡ 54 → ⊥) → short_by km p q ≡ false
    never_other h n m = without (column_other p.channel q.channel h n m)

    module _ (placed : Placed p.latitude p.longitude) (placed' : Placed q.latitude q.longitude) where
      rounds : Rounded (square_of p q) (D (square_of p q))
      unfolding square_of
      rounds = D_is _ (lt_of_le_of_lt (S-size placed placed') (lit< tt))

      held : short_by km p q ≡ true → HeldShort km p q
      unfolding short_by separation distance_of
      held e =
          let x = p.channel in
          let y = q.channel in
          let some : column_for x y ≡ none → ⊥ = λ n. true≢false (sym e ∙ without n) in
          let o = for_some x y some in
          let c = for_open x y o in
          let less : D (square_of p q) < km p.class q.class (column_for x y) = ltb-true _ _ e in
          record {
            above = above_220 x y o;
            one_of_four = column-most (gap x y) (λ n. some (c ∙ n));
            distance = D (square_of p q);
            rounded = rounds;
            below = rw c at less;
          }

      is_short : HeldShort km p q → short_by km p q ≡ true
      unfolding short_by separation distance_of
      is_short h = rw (for_open p.channel q.channel (open_high p.channel q.channel h.above), unique rounds h.rounded) (lt-ltb _ _ h.below)

      -- a pair is held short exactly so, in either order of the pair
      pub held-short : ((short_by km p q ≡ true) ↔ HeldShort km p q) × ((short_by km q p ≡ true) ↔ HeldShort km p q)
      held-short = ((held, is_short), rw (short_either q p) (held, is_short))

-- by Table A
pub held_short_by_table_a : (p q : Assignment) → p.class < 8 → q.class < 8 → Placed p.latitude p.longitude → Placed q.latitude q.longitude
    → ((short p q ≡ true) ↔ HeldShort table_a p q) × ((short q p ≡ true) ↔ HeldShort table_a p q)
held_short_by_table_a = held-short table-a
