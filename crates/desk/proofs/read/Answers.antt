use mathlib.Core.Path.{sym, ◌∙◌}
use native.Mathlib.Omega.{arith}
use Rattle.versions.proofs.Versions.{limit_small}
use Rattle.stations.proofs.Whole.{whole}
use Rattle.desk.proofs.read.Goals as goal

pub overflow_cast-result : goal.overflow_cast-result
overflow_cast-result c = omega (arith, (whole _ _ (sym c.judge-judged.ensures ∙ c.in-Ok.is)).few, limit_small)
