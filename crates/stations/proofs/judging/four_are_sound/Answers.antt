use mathlib.Core.Path.{◌≡◌}
use mathlib.Core.Bool.{Bool, true}
use mathlib.Core.List.{List}
use Prim.Native.Nat.{ℕ, ◌+◌, ◌*◌, ◌/◌, ◌≤◌, ◌<◌}
use native.Mathlib.Omega.{arith}
use lib.ListN.{length}
use Rattle.wire.specs.Be.{be}
use Rattle.versions.proofs.Versions.{limit_small}
use Rattle.stations.specs.Scanning.{Ahead, Passed}
use Rattle.stations.proofs.Whole.{whole_headed}
use Rattle.stations.proofs.Scanning.{ahead_next, more_passed}
use Rattle.stations.proofs.judging.four_are_sound.Goals as goal
use Rattle.stations.proofs.judging.four_are_sound.Goals.{After-one_is_sound-2, After-one_is_sound-3}

-- the places of the four records lie within the table, and are numbers
room : (t : List ℕ) (top at last : ℕ) → Ahead t top 4 at last → at + 64 ≤ length t
room t top at last p = omega (arith, (whole_headed _ p.topped.headed).long, p.placed, p.within)

small : (t : List ℕ) (top at last : ℕ) → Ahead t top 4 at last → at + 64 < 100000
small t top at last p = let w = whole_headed _ p.topped.headed in omega (arith, w.few, w.long, room t top at last p, limit_small)

-- the next record, after one of the first three
ahead : (t : List ℕ) (top at last : ℕ) → Ahead t top 4 at last → (j from to id : ℕ) → j < 3 → from ≡ at + 16 * j → to ≡ from + 16 → id ≡ be 4 t from → Ahead t top 1 to id
ahead t top at last p j from to id h e f q =
    ahead_next _ _ 1 from to id p.topped (omega (arith, p.placed)) (omega (arith, p.placed, p.within)) f q

-- so many are sound, and it is seen whether one more is
more : (t : List ℕ) (top at last : ℕ) → Ahead t top 4 at last → (k to : ℕ) (a b : Bool) → to ≡ at + 16 * k → Passed t (at / 16) k a → a ≡ true → Passed t (to / 16) 1 b → Passed t (at / 16) (k + 1) b
more t top at last p k to a b e q n r =
    let f : to / 16 ≡ at / 16 + k = omega (arith, e, p.placed) in
    more_passed _ _ _ k b f (rw n at q) r

pub get-first-requires : goal.get-first-requires
get-first-requires c = omega (arith, room _ _ _ _ c.requires)

pub overflow_add-at : goal.overflow_add-at
overflow_add-at c = omega (arith, small _ _ _ _ c.requires)

pub one_is_sound-requires-2 : goal.one_is_sound-requires-2
one_is_sound-requires-2 c = ahead _ _ _ _ c.requires 0 _ _ _ (omega arith) (omega arith) (omega arith) c.get-first.ensures

-- two of them
two : (c : After-one_is_sound-2) → Passed c.args.table.now (c.args.at / 16) 2 c.one_is_sound-2.result
two c = more _ _ _ _ c.requires 1 _ _ _ (omega arith) c.one_is_sound.ensures c.if-not-one_is_sound.false c.one_is_sound-2.ensures

pub overflow_add-at-2 : goal.overflow_add-at-2
overflow_add-at-2 c = omega (arith, small _ _ _ _ c.requires)

pub get-second-requires : goal.get-second-requires
get-second-requires c = omega (arith, room _ _ _ _ c.requires)

pub overflow_add-at-3 : goal.overflow_add-at-3
overflow_add-at-3 c = omega (arith, small _ _ _ _ c.requires)

pub one_is_sound-requires-3 : goal.one_is_sound-requires-3
one_is_sound-requires-3 c = ahead _ _ _ _ c.requires 1 _ _ _ (omega arith) (omega arith) (omega arith) c.get-second.ensures

-- three of them
three : (c : After-one_is_sound-3) → Passed c.args.table.now (c.args.at / 16) 2 c.one_is_sound-2.result → Passed c.args.table.now (c.args.at / 16) 3 c.one_is_sound-3.result
three c p = more _ _ _ _ c.requires 2 _ _ _ (omega arith) p c.if-not-one_is_sound-2.false c.one_is_sound-3.ensures

pub overflow_add-at-4 : goal.overflow_add-at-4
overflow_add-at-4 c = omega (arith, small _ _ _ _ c.requires)

pub get-third-requires : goal.get-third-requires
get-third-requires c = omega (arith, room _ _ _ _ c.requires)

pub overflow_add-at-5 : goal.overflow_add-at-5
overflow_add-at-5 c = omega (arith, small _ _ _ _ c.requires)

pub one_is_sound-requires-4 : goal.one_is_sound-requires-4
one_is_sound-requires-4 c = ahead _ _ _ _ c.requires 2 _ _ _ (omega arith) (omega arith) (omega arith) c.get-third.ensures

pub returns : goal.returns
returns c = more _ _ _ _ c.requires 3 _ _ _ (omega arith) (three (goal.at.returns c).After-one_is_sound-3 (two (goal.at.returns c).After-one_is_sound-2)) c.if-not-one_is_sound-3.false c.one_is_sound-4.ensures
