-- 02, R-1: the reason with an id left aside. Assumes nothing.
use Rattle.std.specs.Prelude.{Ok}
use mathlib.Core.Path.{◌≡◌}
use mathlib.Core.Bool.{true}
use mathlib.Core.List.{List}
use Prim.Native.Nat.{ℕ}
use Rattle.ground.specs.Lists.{some}
use Rattle.wire.specs.Be.{Bytes}
use Rattle.stations.specs.Image.{stations, judged}
use Rattle.stations.specs.Encode.{encode}
use Rattle.stations.specs.Lists.{has_id, without}
use Rattle.desk.specs.Answers.{grant, on_table, on_asked}
use Rattle.part73.specs.Standards.{chosen}
use Rattle.studies.specs.Studies.{wanted_fault}
use Rattle.studies.proofs.Aside.{study_whole, study-without}
use Rattle.checks.specs.Check.{asked, on_one}
use Rattle.checks.specs.declared.Proposal.{Proposal}
use Rattle.checks.proofs.Aside.{whole}
use Rattle.reasons.specs.Reason.{reason_for, reasoned_for}

-- with an id that stands in the table the outcome is that of the table without its record
pub aside_reasoned : (s : List ℕ) → Bytes s → (n : ℕ) → judged s ≡ Ok n → (p : Proposal) → some (has_id p.aside) (stations s) ≡ true → reasoned_for s p ≡ reasoned_for (encode (without p.aside (stations s))) (whole p)
unfolding reasoned_for
aside_reasoned s b n e p h = study-without (on_one p) (reason_for (asked p)) s b n e h

-- with the id 0 every station of the table is studied
pub whole_reasoned : (s : List ℕ) (p : Proposal) → reasoned_for s (whole p) ≡ on_table (judged s) (on_asked (wanted_fault (on_one p)) (grant (reason_for (asked p) (chosen p.standard) (stations s))))
unfolding reasoned_for
whole_reasoned s p = study_whole (on_one p) (reason_for (asked p)) s
