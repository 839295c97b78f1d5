use mathlib.Core.Path.{◌≡◌, ap, ◌∙◌}
use Rattle.refusals.specs.Faults.{refusal}
use Rattle.lines.specs.Lines.{refused_line}
use Rattle.streams.proofs.Pieces.{tells_as}
use Rattle.telling.proofs.Waiting.{text_waiting}
use Rattle.telling.proofs.tell_refusal.Goals as goal

pub returns : goal.returns
returns c =
    let told : c.from.result ≡ refusal c.args.fault = cc in
    tells_as (text_waiting c.put_refusal.ensures.puts ∙ ap refused_line told) c.hand_over.ensures
