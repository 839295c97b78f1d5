use mathlib.Core.Path.{◌≡◌, refl}
use mathlib.Core.Bool.{Bool}
use mathlib.Core.List.{List}
use Prim.Native.Nat.{ℕ, ◌/◌}
use native.Mathlib.Omega.{arith}
use Rattle.std.specs.Prelude.{Ok, Err, is_ok}
use Rattle.refusals.specs.Faults.{Verdict}
use Rattle.stations.specs.Image.{station_from, verdict}
use Rattle.stations.specs.Scanning.{Ahead, Passed}
use Rattle.stations.specs.declared.Station.{Station}
use Rattle.stations.proofs.Whole.{whole_headed}
use Rattle.stations.proofs.Scanning.{none_passed, one_passed}
use Rattle.stations.proofs.judging.one_is_sound.Goals as goal

-- it is sound exactly where the verdict is
seen : {s : List ℕ} (t at last : ℕ) (r : Station) (v : Verdict) → Ahead s t 1 at last → r ≡ station_from s at → v ≡ verdict t last 0 r → (b : Bool) → b ≡ is_ok v → Passed s (at / 16) 1 b
seen {s} t at last r (Ok u) a e f b g = rw g (one_passed t at last r (Ok u) a e f refl)
seen {s} t at last r (Err x) a e f b g = rw g (none_passed s (at / 16) 1)

pub record_from-r-requires : goal.record_from-r-requires
record_from-r-requires c = let p = c.requires in
    omega (arith, (whole_headed _ p.topped.headed).long, p.placed, p.within)

pub returns : goal.returns
returns c = seen _ _ _ _ _ c.requires c.record_from-r.ensures c.verdict_of.ensures _ c.is_ok.ensures.value
