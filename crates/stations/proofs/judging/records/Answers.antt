use mathlib.Core.Path.{◌≡◌, ◌∙◌, sym, ap}
use Prim.Native.Nat.{ℕ, ◌+◌, ◌/◌, ◌≤◌, ◌<◌}
use native.Mathlib.Omega.{arith}
use Rattle.std.proofs.Common.{rules, Ok, Err}
use Rattle.versions.specs.Version.{top as top_of}
use Rattle.versions.proofs.Versions.{limit_small}
use Rattle.stations.specs.Image.{station_at, version, count, verdict}
use Rattle.stations.specs.Scanning.{scanned_from}
use Rattle.stations.proofs.Whole.{whole_headed, scan_on, scan_stop, scan_end}
use Rattle.stations.proofs.judging.records.Goals as goal
use Rattle.stations.proofs.judging.records.Goals.{After-top_of-top, After-verdict_of}

-- the verdict on the record
found : (c : After-verdict_of) → let l = c.loop-i in c.verdict_of.result ≡ verdict c.top_of-top.result l.last l.i (station_at c.args.table.now l.i)
found c = c.verdict_of.ensures ∙ ap (verdict _ _ _) c.station_at-r.ensures

pub get-version-requires : goal.get-version-requires
get-version-requires c = omega (arith, (whole_headed _ c.requires).long)

-- the highest flags
flags : (c : After-top_of-top) → c.top_of-top.result ≡ top_of (version c.args.table.now)
flags c = c.top_of-top.ensures ∙ ap top_of c.get-version.ensures

pub loop-i-init : goal.loop-i-init
unfolding scanned_from
loop-i-init c = let t = c.sound_to-at.ensures in record {
  whole = whole_headed _ c.requires;
  within = t.within;
  sound = rw (flags (goal.at.loop-i-init c).After-top_of-top, c.id_before-last.ensures) t.sound;
}

pub returns-in_err-verdict_of : goal.returns-in_err-verdict_of
returns-in_err-verdict_of c = let l = c.loop-i in
    let e : c.from_residual.result ≡ Err c.in_err-verdict_of.field-0.0 = search rules in
    e ∙ sym (l.invariant.sound ∙ scan_stop l.invariant.whole _ l.i l.last _ (omega (arith, c.loop-i-test.true, c.count_of-i-end.ensures)) (sym (found (goal.at.returns-in_err-verdict_of c).After-verdict_of) ∙ c.in_err-verdict_of.was))

pub loop-i-preserved : goal.loop-i-preserved
loop-i-preserved c = let l = c.loop-i in
    let i : l.i < count c.args.table.now = omega (arith, c.loop-i-test.true, c.count_of-i-end.ensures) in record {
      whole = l.invariant.whole;
      within = omega arith;
      sound = rw c.station_at-r.ensures (l.invariant.sound ∙ scan_on l.invariant.whole _ l.i l.last i (sym (found (goal.at.loop-i-preserved c).After-verdict_of) ∙ c.in_ok-verdict_of.was));
    }

pub returns : goal.returns
returns c = let l = c.loop-i in
    let d : count c.args.table.now ≤ l.i = omega (arith, c.loop-i-test.false, c.count_of-i-end.ensures) in
    sym (l.invariant.sound ∙ scan_end l.invariant.whole _ l.i l.last d)

pub count_of-i-end-requires : goal.count_of-i-end-requires
count_of-i-end-requires c = omega (arith, (whole_headed _ c.requires).long)

pub overflow_cast-i : goal.overflow_cast-i
overflow_cast-i c = omega (arith, c.loop-i-test.true, c.count_of-i-end.ensures, c.loop-i.invariant.whole.few, limit_small)
