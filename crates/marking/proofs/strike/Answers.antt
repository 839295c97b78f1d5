use Rattle.marking.proofs.Marks.{struck_as, struck_both}
use Rattle.marking.proofs.Bands.{apart_1, apart_2, bands_beside, bands_all}
use Rattle.marking.proofs.strike.Goals as goal

pub returns-else-reach : goal.returns-else-reach
returns-else-reach c = struck_as (λ m lo hi. bands_beside c.args.c c.args.reach c.requires.1 c.requires.3 m c.if-reach.false) c.band.ensures

pub returns-then-reach : goal.returns-then-reach
returns-then-reach c = struck_as (λ m lo hi. bands_all c.args.c c.args.reach c.requires.1 c.requires.3 m c.if-reach.true)
    (struck_both (λ m lo hi. apart_2 c.args.c c.args.reach c.requires.1 c.requires.3 m)
    (struck_both (λ m lo hi. apart_1 c.args.c c.args.reach c.requires.1 c.requires.3 m) c.band.ensures c.band-then-reach.ensures)
    c.band-then-reach-2.ensures)
