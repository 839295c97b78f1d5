use Rattle.std.proofs.Common.{◌≡◌, ◌∙◌, arith, length-set}
use Rattle.std.proofs.lemmas.List.Edits.{fill_by_more}
use Rattle.part73.specs.Standards.{chosen}
use Rattle.part73.proofs.Chosen.{chosen-table}
use Rattle.standards.proofs.co_channel_of.Goals as goal

pub loop-b-preserved : goal.loop-b-preserved
loop-b-preserved c =
    let i = c.loop-b.invariant in
    let e : c.separation.result ≡ chosen c.args.standard c.args.class c.loop-b.b 0 = c.separation.ensures _ (record { table = chosen-table _; are = c.rows_by-table.ensures }) in
    record {
      long = length-set _ _ _ ∙ i.long;
      at = rw e (fill_by_more (λ j. chosen c.args.standard c.args.class j 0) c.loop-b.out c.loop-b.b 0 (omega (arith, i.long)) i.at);
    }
