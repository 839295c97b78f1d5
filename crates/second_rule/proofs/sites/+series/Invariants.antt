use Prim.Native.Nat.{◌-◌}
use Rattle.second_rule.proofs.sites.+series.Given as goal

abbrev pub decreases-series : goal.decreases-series
decreases-series l = 9 - l.k
