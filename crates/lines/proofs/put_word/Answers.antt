use mathlib.Core.Path.{refl}
use Rattle.lines.proofs.Texts.{placed}
use Rattle.lines.proofs.put_word.Goals as goal

pub returns : goal.returns
returns c =
    record { wrote = record { next = refl; stored = rw c.copy_from_slice.ensures.after (placed _ _ _ _ refl c.requires) }; same_reference = refl }
