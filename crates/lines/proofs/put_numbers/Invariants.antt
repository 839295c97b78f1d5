use Rattle.std.proofs.Common.{◌+◌, ◌*◌, ◌≤◌, take}
use Rattle.ground.specs.Lists.{each}
use Rattle.lines.specs.Lines.{spaced}
use Rattle.lines.specs.Puts.{Puts}
use Rattle.lines.proofs.put_numbers.Given as goal

abbrev pub invariant-loop-number : goal.invariant-loop-number
invariant-loop-number l = record {
  puts : Puts (each spaced (take l.number-index l.before)) l.initial.text l.text;
  within : l.text.at ≤ l.initial.text.at + 11 * l.number-index;
}
