use mathlib.Core.Path.{◌≡◌, sym, ◌∙◌}
use Rattle.std.proofs.Common.{rules, Ok, Err}
use Rattle.refusals.specs.Faults.{Verdict}
use Rattle.stations.specs.Image.{stations, Accepted}
use Rattle.studies.specs.Studies.{study_fault}
use Rattle.studies.proofs.Ways.{passed, table_denied, wanted_denied, granted_on}
use Rattle.studies.proofs.study.Goals as goal
use Rattle.studies.proofs.study.Goals.{After-fault_of, In-Ok, In_ok-fault_of}

-- the lent table passed
whole : (c : In-Ok) → Accepted c.args.table.now
whole c = rw c.in-Ok.ensures at c.in-Ok.table.accepted

-- what was found wrong with the question
found : (c : After-fault_of) → study_fault (stations c.args.table.now) c.args.wanted ≡ c.fault_of.result
found c = sym (rw c.in-Ok.ensures at c.fault_of.ensures)

-- nothing was
sound : (c : In_ok-fault_of) → ◌≡◌ {A = Verdict} (study_fault (stations c.args.table.now) c.args.wanted) (Ok tt)
sound c = sym (rw c.in-Ok.ensures at c.fault_of.ensures) ∙ c.in_ok-fault_of.was

pub returns-in_default : goal.returns-in_default
returns-in_default c = record { denied = λ numbers. table_denied _ _ numbers _ (rw c.unwrap_err.ensures at c.of-judged.ensures) }

pub returns-in_err-fault_of : goal.returns-in_err-fault_of
returns-in_err-fault_of c = let e : c.from_residual.result ≡ Err c.in_err-fault_of.field-0.0 = search rules in
    let w = whole (goal.at.returns-in_err-fault_of c).In-Ok in
    let f = found (goal.at.returns-in_err-fault_of c).After-fault_of ∙ c.in_err-fault_of.was in
    rw e (record { denied = λ numbers. wanted_denied _ _ numbers w _ f })

pub invariant_of-result : goal.invariant_of-result
invariant_of-result c = record { placed = rw c.place.ensures (passed _ _ (sound (goal.at.invariant_of-result c).In_ok-fault_of)).0 }

pub returns : goal.returns
returns c =
    let w = whole (goal.at.returns c).In-Ok in
    let s = sound (goal.at.returns c).In_ok-fault_of in
    record {
      image = c.in-Ok.ensures;
      terms = c.terms.ensures;
      place = c.place.ensures;
      asked = (passed _ _ s).1;
      granted = λ numbers. granted_on _ _ numbers w s;
    }
