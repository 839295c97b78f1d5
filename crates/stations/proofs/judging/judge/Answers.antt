use mathlib.Core.Path.{◌≡◌, ◌∙◌, sym, ap}
use native.Mathlib.Omega.{arith}
use Rattle.std.proofs.Common.{rules, Ok, Err}
use Rattle.stations.specs.Image.{scanned, repeated, stages, judged, Headed}
use Rattle.stations.proofs.Stages.{all_passed}
use Rattle.stations.proofs.Whole.{whole_headed}
use Rattle.stations.proofs.judging.judge.Goals.{In_ok-header, In_ok-records, In_ok-repeat_of}
use Rattle.stations.proofs.judging.judge.Goals as goal

-- the header is right
right : (c : In_ok-header) → Headed c.args.table.now
right c = sym c.header.ensures ∙ c.in_ok-header.was

-- so are the records
whole : (c : In_ok-records) → scanned c.args.table.now ≡ Ok tt
whole c = sym c.records.ensures ∙ c.in_ok-records.was

-- and none repeats another
single : (c : In_ok-repeat_of) → repeated c.args.table.now ≡ Ok tt
single c = sym c.repeat_of.ensures ∙ c.in_ok-repeat_of.was

pub returns-in_err-header : goal.returns-in_err-header
unfolding judged stages
returns-in_err-header c = let e : c.from_residual.result ≡ Err c.in_err-header.field-0.0 = search rules in
    e ∙ rw (sym c.header.ensures ∙ c.in_err-header.was)

pub returns-in_err-records : goal.returns-in_err-records
unfolding judged stages
returns-in_err-records c = let e : c.from_residual-in_err-records.result ≡ Err c.in_err-records.field-0.0 = search rules in
    e ∙ rw (right (goal.at.returns-in_err-records c).In_ok-header, sym c.records.ensures ∙ c.in_err-records.was)

pub returns-in_err-repeat_of : goal.returns-in_err-repeat_of
unfolding judged stages
returns-in_err-repeat_of c = let e : c.from_residual-in_err-repeat_of.result ≡ Err c.in_err-repeat_of.field-0.0 = search rules in
    e ∙ rw (right (goal.at.returns-in_err-repeat_of c).In_ok-header, whole (goal.at.returns-in_err-repeat_of c).In_ok-records, sym c.repeat_of.ensures ∙ c.in_err-repeat_of.was)

pub count_of-requires : goal.count_of-requires
count_of-requires c = omega (arith, (whole_headed _ (right (goal.at.count_of-requires c).In_ok-header)).long)

pub returns : goal.returns
returns c = ap Ok c.count_of.ensures ∙ sym (all_passed _ (right (goal.at.returns c).In_ok-header) (whole (goal.at.returns c).In_ok-records) (single (goal.at.returns c).In_ok-repeat_of))
