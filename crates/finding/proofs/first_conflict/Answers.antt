use Rattle.finding.proofs.Searching.{first_found}
use Rattle.finding.proofs.first_conflict.Goals as goal

pub returns : goal.returns
returns c = let e = c.of.ensures in
    first_found _ c.args.table.now.accepted c.args.r _ (rw (e.table, e.terms, e.place, e.channel, c.place_of.ensures) at c.next.ensures)
