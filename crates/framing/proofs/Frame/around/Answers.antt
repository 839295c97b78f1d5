use Rattle.std.proofs.Common.{arith, to_z-of_z}
use Rattle.spacing.specs.Reaching.{Fair}
use Rattle.distance.proofs.Sites.{north_fits, east_fits}
use Rattle.framing.proofs.Frames.{span_plain, frame_encloses}
use Rattle.framing.proofs.Frame.around.Goals as goal
use Rattle.framing.proofs.Frame.around.Goals.{After-box_around-around}

-- a box that a walk can go by
fair : (c : After-box_around-around) → Fair c.box_around-around.result
fair c = (c.box_around-around.ensures _ c.requires.0.limited).fair

pub centred-requires : goal.centred-requires
centred-requires c = (fair (goal.at.centred-requires c).After-box_around-around).up

pub longitudes_near-requires : goal.longitudes_near-requires
longitudes_near-requires c = let f = fair (goal.at.longitudes_near-requires c).After-box_around-around in rw (to_z-of_z (east_fits f.middle)) (f.middle.east, f.across)

pub returns : goal.returns
returns c = let f = fair (goal.at.returns c).After-box_around-around in
    λ km l. frame_encloses (c.box_around-around.ensures km l) (span_plain (omega (arith, f.middle.north)) f.up (simp (to_z-of_z (north_fits f.middle)) at c.centred.ensures)) (simp (to_z-of_z (east_fits f.middle)) at c.longitudes_near.ensures)
