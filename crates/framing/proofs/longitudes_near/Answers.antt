use Rattle.std.proofs.Common.{◌≡◌, sym, refl, ap, ◌∙◌, to_z-of_z}
use Rattle.framing.specs.Frames.{past, Centred}
use Rattle.framing.proofs.Frames.{span_inside, span-east, span_west}
use Rattle.framing.proofs.longitudes_near.Goals as goal
use Rattle.framing.proofs.longitudes_near.Goals.{After-away, After-away-2, After-centred-plain}

plain : (c : After-centred-plain) → Centred c.args.lon c.args.far c.centred-plain.result
plain c = simp (to_z-of_z c.ranges.lon) at c.centred-plain.ensures

-- whether the eastern end lies outside of the span, and the western
east : (c : After-away) → c.away.result ≡ past c.centred-plain.result 648000
east c = c.away.ensures ∙ ap (past c.centred-plain.result) c.cast_unsigned.ensures

west : (c : After-away-2) → c.away-2.result ≡ past c.centred-plain.result 4294319296
west c = c.away-2.ensures ∙ ap (past c.centred-plain.result) c.cast_unsigned-2.ensures

pub returns-then-not-away : goal.returns-then-not-away
returns-then-not-away c = span-east c.requires.0 c.requires.1 (plain (goal.at.returns-then-not-away c).After-centred-plain) refl (sym (east (goal.at.returns-then-not-away c).After-away) ∙ c.if-not-away.true) refl

pub returns-then-not-away-2 : goal.returns-then-not-away-2
returns-then-not-away-2 c = span_west c.requires.0 c.requires.1 (plain (goal.at.returns-then-not-away-2 c).After-centred-plain) refl (sym (west (goal.at.returns-then-not-away-2 c).After-away-2) ∙ c.if-not-away-2.true) refl

pub returns : goal.returns
returns c = span_inside c.requires.0 c.requires.1 (plain (goal.at.returns c).After-centred-plain) (sym (east (goal.at.returns c).After-away) ∙ c.if-not-away.false) (sym (west (goal.at.returns c).After-away-2) ∙ c.if-not-away-2.false)
