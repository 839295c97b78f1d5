use mathlib.Core.Path.{◌∙◌}
use native.Mathlib.Omega.{arith}
use Rattle.ground.proofs.Writes.{walk_turn, walk_end}
use Rattle.lines.specs.Lines.{numbers_line, row_line, line_at}
use Rattle.lines.proofs.Texts.{puts_kept}
use Rattle.lines.proofs.put_lines.Goals as goal

pub loop-i-preserved : goal.loop-i-preserved
unfolding numbers_line row_line line_at
loop-i-preserved c =
    let p = c.put_numbers.ensures in
    let l = c.loop-i.invariant in
    record {
      length_kept = puts_kept p.puts ∙ l.length_kept;
      same_reference = p.puts.same_reference ∙ l.same_reference;
      within = omega (arith, p.upper_bound, l.within);
      walking = walk_turn c.loop-i-test.true l.walking p.puts.wrote;
    }

pub returns-clause-puts : goal.returns-clause-puts
returns-clause-puts c = let l = c.loop-i.invariant in record { wrote = walk_end (omega arith) l.walking; same_reference = l.same_reference }
