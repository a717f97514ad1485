use Rattle.std.proofs.Common.{◌+◌}
use Rattle.topo_route.specs.Searches.{SpreadsFrom, priced_faces}
use Rattle.topo_route.specs.Settling.{effort}
use Rattle.topo_route.proofs.both_ends.spread_both.Given as goal

abbrev pub invariant-loop-least : goal.invariant-loop-least
invariant-loop-least g l = SpreadsFrom (priced_faces g.W.FaceGraph g.F.PriceFn l.priced) l.u l.v l.work l.least

abbrev pub decreases-loop-least : goal.decreases-loop-least
decreases-loop-least g l = effort l.work.to_end.heights l.work.to_end.waiting + effort l.work.to_start.heights l.work.to_start.waiting
