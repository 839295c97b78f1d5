-- 02, R-1: Arrange with an id left aside. Assumes nothing.
use Rattle.std.specs.Prelude.{Ok}
use mathlib.Core.Path.{◌≡◌}
use mathlib.Core.Bool.{true}
use mathlib.Core.List.{List}
use Prim.Native.Nat.{ℕ}
use Rattle.ground.specs.Lists.{some}
use Rattle.wire.specs.Be.{Bytes}
use Rattle.stations.specs.Image.{stations, judged}
use Rattle.stations.specs.Encode.{encode}
use Rattle.stations.specs.Lists.{has_id, without}
use Rattle.desk.specs.Answers.{grant, on_table, on_asked}
use Rattle.part73.specs.Standards.{chosen}
use Rattle.studies.specs.Studies.{asked, wanted_fault}
use Rattle.studies.specs.declared.Wanted.{Wanted}
use Rattle.studies.proofs.Aside.{whole, study_whole, study-without}
use Rattle.arrangements.specs.Arrange.{rows_for, arranged_for}

-- with an id that stands in the table the outcome is that of the table without its record
pub aside_arranged : (s : List ℕ) → Bytes s → (n : ℕ) → judged s ≡ Ok n → (w : Wanted) → some (has_id w.aside) (stations s) ≡ true → arranged_for s w ≡ arranged_for (encode (without w.aside (stations s))) (whole w)
unfolding arranged_for
aside_arranged s b n e w h = study-without w (rows_for (asked w) w.first w.last) s b n e h

-- with the id 0 every station of the table is studied
pub whole_arranged : (s : List ℕ) (w : Wanted) → arranged_for s (whole w) ≡ on_table (judged s) (on_asked (wanted_fault w) (grant (rows_for (asked w) w.first w.last (chosen w.standard) (stations s))))
unfolding arranged_for
whole_arranged s w = study_whole w (rows_for (asked w) w.first w.last) s
