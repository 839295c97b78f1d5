use mathlib.Core.Path.{◌≡◌, ◌∙◌}
use mathlib.Core.List.{List}
use Prim.Native.Nat.{ℕ}
use native.Mathlib.Omega.{arith}
use Rattle.wire.specs.Be.{Bytes}
use Rattle.repeats.specs.Repeats.{FirstRepeat}
use Rattle.repeats.specs.Records.{agrees}
use Rattle.versions.proofs.Versions.{limit_small}
use Rattle.stations.specs.Image.{count, repeat_of}
use Rattle.stations.proofs.Whole.{Whole, whole_headed}
use Rattle.stations.proofs.Repeats.{twins-bytes, repeat_is, repeat_found, repeat_none}
use Rattle.stations.proofs.judging.repeat_of.Goals as goal
use Rattle.stations.proofs.judging.repeat_of.Goals.{After-count_of-n, After-first_repeat-i}

-- by bytes or by stations it is the same position
by-stations : (s : List ℕ) → Bytes s → (n r : ℕ) → n ≡ count s → FirstRepeat (agrees s) n r → r ≡ repeat_of s
by-stations s b n r e w =
    repeat_is s r
    (rw (← e) (record {
      upto = w.upto;
      before = λ i h j l. twins-bytes s b i j ∙ w.before i h j l;
      earlier = λ h. let k = w.earlier h in (k.0, k.1, twins-bytes s b r k.0 ∙ k.2);
    }))

whole : (c : After-count_of-n) → Whole c.args.table.now (count c.args.table.now)
whole c = whole_headed _ c.requires

found : (c : After-first_repeat-i) → c.first_repeat-i.result ≡ repeat_of c.args.table.now
found c = by-stations _ (λ i. (c.type_inv.table i).fits) _ _ c.count_of-n.ensures c.first_repeat-i.ensures

pub count_of-n-requires : goal.count_of-n-requires
count_of-n-requires c = omega (arith, (whole_headed _ c.requires).long)

pub first_repeat-i-requires : goal.first_repeat-i-requires
first_repeat-i-requires c = let w = whole (goal.at.first_repeat-i-requires c).After-count_of-n in record { room = omega (arith, c.count_of-n.ensures, w.long); few = omega (arith, c.count_of-n.ensures, w.few) }

pub overflow_cast-result : goal.overflow_cast-result
overflow_cast-result c = let w = whole (goal.at.overflow_cast-result c).After-count_of-n in omega (arith, c.count_of-n.ensures, w.few, limit_small, c.if-i-n.true)

pub returns-then-i-n : goal.returns-then-i-n
returns-then-i-n c = repeat_found _ _ (found (goal.at.returns-then-i-n c).After-first_repeat-i) (omega (arith, c.count_of-n.ensures, c.if-i-n.true))

pub returns : goal.returns
returns c = repeat_none _ _ (found (goal.at.returns c).After-first_repeat-i) (omega (arith, c.count_of-n.ensures, c.if-i-n.false))
