use Rattle.topo_embedded.specs.declared.parts.Parts.{Parts}
use Rattle.topo_embedded.proofs.guided.Fitting.{searches_none}
use Rattle.topo_embedded.proofs.embedded.Embedded.drop_potentials.Goals as goal

pub invariant_of-self : goal.invariant_of-self
invariant_of-self c =
    let was = c.self.invariant in
    let parts = c.self.inside.parts in
    let now : Parts = record { rows = parts.rows; paths = parts.paths; segments = parts.segments; bounds = c.none.result; kinds = parts.kinds } in
    (was.0, was.1, was.2, searches_none now c.none.ensures.0 was.3.kinds)
