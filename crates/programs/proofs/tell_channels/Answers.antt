use mathlib.Core.Path.{refl, sym, ap, ◌∙◌}
use mathlib.Core.List.{[]}
use Prim.Native.Nat.{◌≤◌}
use native.Mathlib.Omega.{arith}
use lib.ListN.{length}
use Rattle.part73.specs.Channels.{highest}
use Rattle.lines.proofs.Texts.{puts_kept}
use Rattle.streams.proofs.Pieces.{start, left_as, end}
use Rattle.telling.proofs.Waiting.{text_put_in, after_room}
use Rattle.programs.proofs.Arranging.{left_first, left_denied, left_next, left_last, all_granted}
use Rattle.programs.proofs.tell_channels.Goals as goal

pub loop-channel-init : goal.loop-channel-init
loop-channel-init c = record { low = omega arith; high = omega arith; long = refl; place = omega arith; granted = λ h. absurd (omega arith); telling = left_as (left_first _ _) (start _ _) }

pub returns-then-refused : goal.returns-then-refused
returns-then-refused c =
    let p = c.put_channel-refused.ensures in
    let r = c.in_ok-make_room.ensures in
    let l = c.loop-channel in
    let t : l.channel ≤ highest = omega (arith, c.loop-channel-test.true) in
    let d = sym p.refused ∙ c.if-refused.true in
    let k = after_room l.lines c.make_room.new.text r.same_text r.roomed refl l.invariant.telling in
    end (text_put_in p.puts [] (left_as (left_denied _ _ _ l.auto.channel t d) k)) c.hand_over.ensures

pub loop-channel-preserved : goal.loop-channel-preserved
loop-channel-preserved c =
    let p = c.put_channel-refused.ensures in
    let r = c.in_ok-make_room.ensures in
    let l = c.loop-channel in
    let t : l.channel ≤ highest = omega (arith, c.loop-channel-test.true) in
    let d = sym p.refused ∙ c.if-refused.false in
    let k = after_room l.lines c.make_room.new.text r.same_text r.roomed refl l.invariant.telling in
    record {
      low = omega (arith, l.invariant.low);
      high = omega (arith, t);
      long = puts_kept p.puts ∙ ap length r.same_text ∙ l.invariant.long;
      place = c.put_channel-refused.new.text.within;
      granted = λ h. all_granted _ _ _ l.auto.channel t d;
      telling = text_put_in p.puts _ (left_as (left_next _ _ _ l.auto.channel t d) k);
    }

pub returns : goal.returns
returns c =
    let l = c.loop-channel in
    end (left_as (left_last _ _ _ (omega (arith, c.loop-channel-test.false)) (l.invariant.granted (omega (arith, c.loop-channel-test.false)))) l.invariant.telling) c.hand_over-2.ensures
