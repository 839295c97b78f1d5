-- The rule of the table of squares, for any table of separations; that the order of two classes is nothing to it; and where there
-- is no limit. Assumes nothing.
use mathlib.Core.Path.{◌≡◌, refl, sym, ap, ◌∙◌}
use mathlib.Core.Bool.{true, false, ◌&&◌, and-false, and_comm}
use mathlib.Core.List.{List, []}
use Prim.Native.Nat.{ℕ, ◌≤◌, ◌<◌}
use native.Mathlib.Omega.{arith}
use borrow.Author.Tests.{lt-ltb, le-ltb, le-leb, leb-true}
use Rattle.ground.proofs.Guards.{here, on}
use Rattle.ground.specs.Lists.{build}
use Rattle.ground.proofs.Built.{get_or-build}
use Rattle.part73.specs.Classes.{is_class}
use Rattle.part73.specs.Columns.{none}
use Rattle.part73.specs.Separations.{Separations}
use Rattle.squares.specs.Squares.{limit_of, squared_limits, entry, limit_for}

-- the rule: the entry of two classes, in whichever order, at a column is the limit of their separation
pub rule : (km : ℕ → ℕ → ℕ → ℕ) (a b c : ℕ) → a < 8 → b < 8 → c < 4 → entry (squared_limits km) a b c ≡ limit_of (km a b c)
unfolding squared_limits
rule km a b c ha hb hc =
    rw (get_or-build 8 (λ a. build 8 (λ b. build 4 (λ c. limit_of (km a b c)))) a [] ha, get_or-build 8 (λ b. build 4 (λ c. limit_of (km a b c))) b [] hb)
    (get_or-build 4 (λ c. limit_of (km a b c)) c 0 hc)

module _ {km : ℕ → ℕ → ℕ → ℕ} (table : Separations km) where
  -- the order of the classes is nothing to it
  pub entry_swap : (a b c : ℕ) → a < 8 → b < 8 → c < 4 → entry (squared_limits km) a b c ≡ entry (squared_limits km) b a c
  entry_swap a b c ha hb hc = rule km a b c ha hb hc ∙ (ap limit_of (table.either a b c) ∙ sym (rule km b a c hb ha hc))

  pub limit_swap : (a b c : ℕ) → limit_for km a b c ≡ limit_for km b a c
  unfolding limit_for
  limit_swap a b c = rw (and_comm (is_class a) (is_class b), table.either a b c)

module _ (km : ℕ → ℕ → ℕ → ℕ) (a b c : ℕ) where
  -- there is none past the classes, and none past the columns
  pub no_class : is_class a ≡ false → 0 ≡ limit_for km a b c
  unfolding limit_for
  no_class e = on _ _ _ (rw e) refl

  pub no_other : is_class b ≡ false → 0 ≡ limit_for km a b c
  unfolding limit_for
  no_other e = on _ _ _ (rw (e, and-false (is_class a))) refl

  pub past_columns : none ≤ c → 0 ≡ limit_for km a b c
  unfolding limit_for
  past_columns h = on _ _ _ (rw (le-ltb c none h, and-false (is_class a && is_class b))) refl

  -- within them it is that of the separation
  pub within : a < 8 → b < 8 → c < none → limit_of (km a b c) ≡ limit_for km a b c
  unfolding limit_for is_class
  within ha hb hc = here _ _ _ (rw (le-leb a 7 (omega arith), le-leb b 7 (omega arith), lt-ltb c none hc)) refl

  -- and it stands in the table
  pub stands : {squares : List (List (List ℕ))} → squares ≡ squared_limits km → is_class a ≡ true → is_class b ≡ true → c ≤ 3 → entry squares a b c ≡ limit_for km a b c
  unfolding is_class
  stands e f g h =
      let ha : a < 8 = omega (arith, leb-true a 7 f) in
      let hb : b < 8 = omega (arith, leb-true b 7 g) in
      rw e (rule km a b c ha hb (omega arith) ∙ within ha hb (omega arith))
