use mathlib.Core.Path.{refl, ◌∙◌}
use Prim.Native.Nat.{ℕ}
use native.Mathlib.Omega.{arith}
use lib.ListN.{take}
use lib.Seq.{length-take-le}
use Rattle.ground.specs.Rows.{Row, flat}
use Rattle.ground.proofs.Writes.{wrote_none}
use Rattle.part73.specs.Standards.{chosen}
use Rattle.part73.proofs.Chosen.{chosen-table}
use Rattle.spacing.specs.Pair.{sited}
use Rattle.versions.proofs.Versions.{limit_small}
use Rattle.stations.specs.Image.{station_at}
use Rattle.checks.specs.Check.{row_of}
use Rattle.checks.proofs.Listing.{length_rows, rows_more}
use Rattle.checks.proofs.writing.put_noted.Goals as goal
use Rattle.checks.proofs.writing.put_noted.Goals.{Start}

-- the row of a position
abbrev row_at : Start → ℕ → Row
row_at s j = let study = s.args.study.now in row_of (chosen study.terms.standard) (sited study.place s.args.channel) (station_at study.table.image.now j)

pub loop-i-init : goal.loop-i-init
unfolding flat
loop-i-init c = record { wrote = wrote_none _ _; same_reference = refl }

pub put-requires : goal.put-requires
put-requires c = let t = c.loop-i.i-index in let vs = c.args.positions.now in
    omega (arith, c.loop-i.invariant.wrote.next, c.new-rows.ensures.start, length_rows (row_at (goal.at.put-requires c).Start) (take t vs), length-take-le t vs (omega (arith, c.loop-i-test.true)), c.loop-i-test.true, c.requires.few, limit_small)

pub loop-i-preserved : goal.loop-i-preserved
unfolding flat row_of
loop-i-preserved c =
    let l = c.loop-i.invariant in
    let w = rw (c.neighbour_at-n.ensures _ (record { table = chosen-table _; are = c.rows_by-separations.ensures })) at c.put.ensures.wrote in
    record {
      wrote = rows_more (row_at (goal.at.loop-i-preserved c).Start) c.args.positions.now c.loop-i.i-index c.loop-i-test.true l.wrote w;
      same_reference = c.put.ensures.same_reference ∙ l.same_reference;
    }
