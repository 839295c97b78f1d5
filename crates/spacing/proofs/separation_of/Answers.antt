use mathlib.Core.Path.{sym, ap, ◌∙◌}
use Rattle.spacing.specs.Pair.{separation}
use Rattle.spacing.proofs.separation_of.Goals as goal

pub returns-in-Some : goal.returns-in-Some
unfolding separation
returns-in-Some c = λ km t. c.separation.ensures km t ∙ ap (km c.args.a c.args.b) c.in-Some.ensures.0

pub returns-in-None : goal.returns-in-None
unfolding separation
returns-in-None c = λ km t. sym (ap (km c.args.a c.args.b) c.in-None.ensures ∙ t.table.ends c.args.a c.args.b c.requires.0 c.requires.1)
