use Rattle.std.proofs.Common.{subst}
use Rattle.topo_map.specs.Rotation.{face_of}
use Rattle.topo_route.specs.Potentials.{AreConsistent}
use Rattle.topo_embedded.specs.Bounds.{at_face, floor_of}
use Rattle.topo_embedded.specs.Halves.{RowsWithPaths, ShowsRows}
use Rattle.topo_embedded.specs.Parts.{with_paths}
use Rattle.topo_embedded.specs.Walking.{named_in}
use Rattle.topo_embedded.proofs.guided.Guiding.{consistent_names}
use Rattle.topo_embedded.proofs.embedded.Embedded.search_parts.Goals as goal

pub returns-clause-shows : goal.returns-clause-shows
returns-clause-shows c = subst (λ (q : RowsWithPaths). ShowsRows q c.self.inside.parts.segments) c.self.view_is c.self.invariant.1

pub returns-clause-consistent : goal.returns-clause-consistent
returns-clause-consistent c size =
    let parts = c.self.inside.parts in
    subst (λ (p : RowsWithPaths). AreConsistent (named_in p size) (face_of parts.segments) (at_face parts.bounds) (floor_of parts.bounds)) c.self.view_is
    (consistent_names (with_paths parts) c.self.invariant.0 parts.segments c.self.invariant.1 parts.bounds c.self.invariant.3.slope
    c.self.invariant.3.consistent c.self.invariant.3.fits size)
