use Rattle.std.proofs.Common.{rules, ◌<◌, ltb, ap, arith}
use Rattle.framing.specs.Frames.{past}
use Rattle.framing.proofs.Frames.{less_by}
use Rattle.framing.proofs.Span.away.Goals as goal

pub returns : goal.returns
unfolding past
returns c = let low : c.args.self.low < 4294967296 = search rules in
    ap (ltb c.args.self.size) (less_by _ _ (omega arith))
