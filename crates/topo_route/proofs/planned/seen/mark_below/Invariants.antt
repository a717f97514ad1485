use Rattle.std.proofs.Common.{map}
use Rattle.topo_route.specs.Regions.{IsRegionOf}
use Rattle.topo_route.specs.Seen.{HoldsMore}
use Rattle.topo_route.proofs.surviving.Marking.{HoldsFirst}
use Rattle.topo_route.proofs.planned.seen.mark_below.Given as goal

abbrev pub invariant-loop-i : goal.invariant-loop-i
invariant-loop-i g l =
    let named = g.W.FaceGraph.named l.graph in
    let face = g.W.FaceGraph.face_of l.graph in
    record {
      of_rows : IsRegionOf named.rows l.region;
      more : HoldsMore l.initial.region l.region;
      first : HoldsFirst named face l.labels.heights l.bound (map face l.labels.names.items) l.i l.region;
    }
