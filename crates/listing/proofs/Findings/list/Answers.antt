use mathlib.Core.Path.{◌∙◌}
use native.Mathlib.Omega.{arith}
use Rattle.std.proofs.Common.{rules}
use Rattle.ground.proofs.Writes.{walk_turn, walk_end}
use Rattle.listing.proofs.Findings.list.Goals as goal

pub loop-c-preserved : goal.loop-c-preserved
loop-c-preserved c =
    let l = c.loop-c.invariant in
    let p = c.list_channel.ensures in
    record {
      same_reference = p.puts.same_reference ∙ l.same_reference;
      within = omega (arith, p.upper_bound, l.within);
      walking = walk_turn (omega arith) l.walking p.puts.wrote;
    }

pub returns : goal.returns
returns c =
    let l = c.loop-c.invariant in
    let v = walk_end (omega arith) l.walking in
    let w = rw c.new-rows.ensures.unchanged at v in
    (record { next = w.next; stored = search rules ∙ w.stored }, omega (arith, l.within, c.args.self.now.asked))
