-- Where a lone blocker may go: from the code's marks and rows to the scene. Assumes nothing.
use mathlib.Core.Path.{◌≡◌, sym, ◌∙◌}
use mathlib.Core.Bool.{Bool, true, false, not, and-false}
use mathlib.Core.List.{List}
use Prim.Native.Nat.{ℕ, suc, ◌+◌, ◌-◌, ◌≤◌, ◌<◌}
use native.Mathlib.Omega.{arith}
use native.Mathlib.Decide.{ℕ_discrete}
use lib.Dec.{eqb}
use borrow.Author.Tests.{ne_eqb}
use Rattle.ground.proofs.Guards.{and_was}
use Rattle.part73.specs.Channels.{lowest, highest}
use Rattle.spacing.specs.Reaching.{Reaches}
use Rattle.spacing.specs.declared.Place.{Place}
use Rattle.stations.specs.Image.{count, Accepted}
use Rattle.stations.specs.Lists.{movable}
use Rattle.survey.specs.Ways.{place_of, looked, chosen_for}
use Rattle.survey.specs.Walking.{blocks}
use Rattle.marking.specs.Marks.{many, seen, mark_of}
use Rattle.survey.specs.declared.Terms.{Terms}
use Rattle.survey.proofs.Records.{few}
use Rattle.survey.proofs.Shorts.{hit_at}
use Rattle.planning.specs.Scene.{Scene, scene, scene_of, new_but, moved_but, allowed}
use Rattle.planning.specs.Flags.{Mark, Lone, station_of, may_move, Kept, Meets, goes, goes_from, row_of, Rowed, Right, Planned}
use Rattle.planning.specs.declared.Blocker.{Blocker}
use Rattle.planning.proofs.Single.{First, one}
use Rattle.planning.proofs.Tallies.{Tally, nobody, lone, several, tally, mark_of_lem, lone_hit, but_mark}
use Rattle.planning.proofs.Rowing.{Turned}

-- ---- where a lone movable blocker may go, by the marks from its own site

module _ (t : Scene) (c : ℕ) where
  -- the one at a is the only one in the way
  new_but_lem : (a : ℕ) → First (t.new c) 0 t.size a → a < t.size → First (t.new c) (a + 1) t.size t.size → new_but t a c ≡ true
  unfolding new_but
  new_but_lem a first within second = one t.size (t.new c) a first within t.size second (omega arith)

  by_kept : (v : ℕ) (kept : List ℕ) → t.size < many → Tally (t.new c) t.size v → Lone v → t.movable (v - 1) ≡ true → ((m : ℕ) → lowest ≤ m → m ≤ highest → mark_of kept m ≡ seen (t.moved (v - 1) m) t.size) → (m : ℕ) → lowest ≤ m → m ≤ highest → goes (mark_of kept m) v m (t.channel (v - 1)) (t.meets (v - 1) m c) ≡ allowed t c (v - 1) m
  unfolding allowed moved_but
  by_kept v kept few (nobody f) o mv k m lo hi = absurd (omega arith)
  by_kept v kept few (several a b l f g h) o mv k m lo hi = absurd (omega arith)
  by_kept v kept few (lone a l f g) o mv k m lo hi = go (suc a - 1) (omega arith) mv (k m lo hi)
    where
      go : (i : ℕ) → i ≡ a → t.movable i ≡ true → mark_of kept m ≡ seen (t.moved i m) t.size → goes (mark_of kept m) (suc a) m (t.channel i) (t.meets i m c) ≡ allowed t c i m
      go i e mv k =
          let n : new_but t i c ≡ true = rw e (new_but_lem a f l g) in
          let b = but_mark (t.moved i m) t.size i (seen (t.moved i m) t.size) few (omega arith) (tally (t.moved i m) t.size) in
          rw (mv, n, b, k, e)

-- ---- what the mark of a new channel says

module _ (s : List ℕ) (v : ℕ) where
  moves_yes : may_move s v ≡ true → movable (station_of s v) ≡ true
  moves_yes e = (and_was (not (eqb v many)) _ (and_was (not (eqb v 0)) _ e).1).1

  moves_no : may_move s v ≡ false → Lone v → movable (station_of s v) ≡ false
  moves_no e l = rw (ne_eqb v 0 (λ q. omega arith), ne_eqb v many (λ q. omega arith)) at e

-- ---- the row of a new channel, by its mark

module _ (s : List ℕ) (t : Terms) (p : Place) (c : ℕ) {v : ℕ} (e : v ≡ seen ((scene_of s t p).new c) (count s)) where
  tallied : Tally ((scene_of s t p).new c) (count s) v
  tallied = rw e (tally _ (count s))

  pub marks_one : Mark (count s) v
  marks_one = mark_of_lem _ (count s) v tallied

  -- a station that alone is in the way is looked at
  lone-looked : Lone v → looked t (station_of s v) ≡ true
  unfolding scene blocks
  lone-looked l = (and_was (looked t (station_of s v)) _ (lone_hit _ (count s) v l tallied)).0

  pub right_kept : {i : ℕ} {kept : List ℕ} {b : Blocker} {row : List Bool} → Accepted s → lowest ≤ c → may_move s v ≡ true → v ≡ suc i → Kept (chosen_for t) (looked t) s i kept → Meets (chosen_for t) s p i b → Rowed (goes_from b c kept) row → Right (scene_of s t p) c v row
  unfolding scene
  right_kept {i} {kept} {b} a low y h k w r l =
      let f : v - 1 ≡ i = omega (arith, h) in
      let own : b.own ≡ (station_of s v).channel = rw f w.own in
      let reach : Reaches (chosen_for t) p (place_of (station_of s v)) b.reach = rw f w.reach in
      let held : Kept (chosen_for t) (looked t) s (v - 1) kept = rw f k in
      record {
        at =
            λ x lo hi.
            r.at x lo hi
            ∙ rw (w.mark ∙ sym h, own, hit_at reach c x low) (by_kept (scene_of s t p) c v kept (omega (arith, few s a)) tallied l (rw (lone-looked l) (moves_yes s v y)) held.at x lo hi);
      }

  pub right-down : {row : List Bool} → may_move s v ≡ false → Rowed (λ m. false) row → Right (scene_of s t p) c v row
  unfolding scene allowed
  right-down n r l = record { at = λ x lo hi. r.at x lo hi ∙ rw (moves_no s v n l, and-false (looked t (station_of s v))) }

-- ---- one new channel after the other

pub plan_turn : {t : Scene} {first c v : ℕ} {row : List Bool} {entry exit : List (List Bool)} → first ≤ c → Planned t first c entry → Turned first c row entry exit → v ≡ seen (t.new c) t.size → Right t c v row → Planned t first (c + 1) exit
plan_turn {t} {first} {c} {v} {row} {entry} {exit} le p u e r =
    record {
      done = λ x a b. go x a b (ℕ_discrete x c);
      down = record { at = λ x h. rw (u.other x (omega arith) (λ q. omega arith)) (p.down.at x (omega arith)) };
    }
  where
    go : (x : ℕ) → first ≤ x → x < c + 1 → Dec (x ≡ c) → Right t x (seen (t.new x) t.size) (row_of first exit x)
    go x a b (yes q) = rw (q, u.here, ← e) r
    go x a b (no n) = rw (u.other x a n) (p.done x a (omega arith))
