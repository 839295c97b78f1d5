use Rattle.planning.specs.Flags.{goes_from}
use Rattle.planning.proofs.Rowing.{Rowing}
use Rattle.planning.proofs.Blocker.fill_row.Given as goal

abbrev pub invariant-loop-m : goal.invariant-loop-m
invariant-loop-m l = Rowing (goes_from l.self l.c l.kept) l.row l.m
