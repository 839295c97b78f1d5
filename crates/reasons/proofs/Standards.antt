-- 02, R-6: the reason by another standard. By 1 it is what it was; and what is clear by 1 is clear by 2. Assumes nothing.
use Rattle.std.specs.Prelude.{Ok, None}
use mathlib.Core.Path.{◌≡◌}
use mathlib.Core.List.{List}
use Prim.Native.Nat.{ℕ}
use Rattle.part73.specs.TableA.{table_a}
use Rattle.part73.specs.Standards.{by_table_a, by_lesser}
use Rattle.studies.proofs.Standards.{before, study_1}
use Rattle.checks.specs.Check.{asked, on_one}
use Rattle.checks.specs.declared.Proposal.{Proposal}
use Rattle.checks.proofs.Standards.{by, acceptable_by_2}
use Rattle.reasons.specs.Reason.{reason_for, reasoned_for, outcome_of}
use Rattle.reasons.proofs.Meaning.{clear_exactly}

-- by 1 it is what it was, with the reason by Table A
pub reasoned_1 : (s : List ℕ) (p : Proposal) → reasoned_for s (by by_table_a p) ≡ before s (on_one p) (reason_for (asked p) table_a)
unfolding reasoned_for
reasoned_1 s p = study_1 s (on_one p) (reason_for (asked p))

-- what is clear by 1 is clear by 2
pub clear_by_2 : (s : List ℕ) (p : Proposal) → outcome_of (Ok None) ≡ reasoned_for s (by by_table_a p) → outcome_of (Ok None) ≡ reasoned_for s (by by_lesser p)
clear_by_2 s p e = (clear_exactly s (by by_lesser p)).1 (acceptable_by_2 s p ((clear_exactly s (by by_table_a p)).0 e))
