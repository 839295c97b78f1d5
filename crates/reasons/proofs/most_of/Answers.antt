use mathlib.Core.Path.{◌≡◌}
use Prim.Native.Nat.{ℕ}
use Rattle.std.specs.Prelude.{MatchOption}
use Rattle.std.proofs.Common.{rules}
use Rattle.part73.specs.Standards.{chosen}
use Rattle.part73.proofs.Chosen.{chosen-table}
use Rattle.spacing.specs.Pair.{sited}
use Rattle.stations.specs.Image.{station_at}
use Rattle.neighbours.specs.Neighbours.{neighbour_of}
use Rattle.neighbours.specs.Inside.{worse_of}
use Rattle.neighbours.specs.declared.Neighbour.{Neighbour}
use Rattle.reasons.proofs.Keeping.{kept_more}
use Rattle.reasons.proofs.most_of.Goals as goal
use Rattle.reasons.proofs.most_of.Goals.{Start}

-- what is told of a position
abbrev told : Start → ℕ → Neighbour
told s j = let study = s.args.study.now in neighbour_of (chosen study.terms.standard) (sited study.place s.args.channel) (station_at study.table.image.now j)

pub loop-i-preserved : goal.loop-i-preserved
loop-i-preserved c =
    let next = c.neighbour_at-next.ensures _ (record { table = chosen-table _; are = c.rows_by-separations.ensures }) in
    let w : MatchOption c.loop-i.most (c.map_or.result ≡ c.neighbour_at-next.result) (λ earlier. c.map_or.result ≡ worse_of earlier c.neighbour_at-next.result) = search rules in
    kept_more (told (goal.at.loop-i-preserved c).Start) c.args.positions.now c.loop-i.i-index c.map_or.result c.loop-i-test.true (rw (c.loop-i.invariant, next) at w)
