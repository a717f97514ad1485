use Rattle.std.proofs.Common.{◌≡◌}
use Rattle.topo_core.specs.Cycles.{after}
use Rattle.topo_route.specs.Names.{IsName, next_name}
use Rattle.topo_route.specs.Regions.{IsRegionOf}
use Rattle.topo_route.specs.Seen.{HoldsMore}
use Rattle.topo_route.proofs.surviving.Marking.{HoldsAlong}
use Rattle.topo_route.proofs.planned.seen.mark_face.Given as goal

abbrev pub invariant-loop-steps : goal.invariant-loop-steps
invariant-loop-steps g l =
    let named = g.W.FaceGraph.named l.graph in
    record {
      of_rows : IsRegionOf named.rows l.region;
      more : HoldsMore l.initial.region l.region;
      place : l.at ≡ after (next_name named) l._steps l.dart;
      name : IsName named l.at;
      along : HoldsAlong named l.dart l._steps l.region;
    }
