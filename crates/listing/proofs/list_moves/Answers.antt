use mathlib.Core.Path.{◌∙◌}
use native.Mathlib.Omega.{arith}
use Rattle.ground.proofs.Writes.{walk_turn, walk_end, wrote_none}
use Rattle.listing.proofs.Marking.{moves_bound}
use Rattle.listing.proofs.list_moves.Goals as goal
use Rattle.listing.proofs.list_moves.Goals.{then-row-m, else-row-m}

pub put-requires : goal.put-requires
put-requires c = omega (arith, c.loop-m.invariant.walking.places, moves_bound c.args.row.now c.args.id c.args.c, c.requires.1)

pub loop-m-preserved : goal.loop-m-preserved
loop-m-preserved c =
    let l = c.loop-m.invariant in
    elim c.if-row-m.branch [
      | then-row-m w ↦
          rw w.rows-is (record {
            same_reference = w.put.ensures.same_reference ∙ l.same_reference;
            walking = walk_turn c.loop-m-test.true l.walking (rw w.if-row-m.true w.put.ensures.wrote);
          })
      | else-row-m w ↦
          rw w.rows-is (record {
            same_reference = l.same_reference;
            walking = walk_turn c.loop-m-test.true l.walking (rw w.if-row-m.false (wrote_none _ _));
          })
    ]

pub returns : goal.returns
returns c = record { wrote = walk_end (omega arith) c.loop-m.invariant.walking; same_reference = c.loop-m.invariant.same_reference }
