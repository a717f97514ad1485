use Rattle.topo_embedded.proofs.guided.Fitting.{fits_by}
use Rattle.topo_embedded.specs.Bounds.{slope_by}
use Rattle.topo_embedded.specs.Parts.{with_paths}
use Rattle.topo_embedded.proofs.halves.Apart.{live_edge}
use Rattle.topo_embedded.proofs.embedded.Embedded.set_potentials.Goals as goal

pub are_consistent-requires-clause-there : goal.are_consistent-requires-clause-there
are_consistent-requires-clause-there c =
    let parts = c.self.inside.parts in live_edge (with_paths parts) c.self.invariant.0 parts.segments c.self.invariant.1 c.laws.ensures

pub invariant_of-self : goal.invariant_of-self
invariant_of-self c =
    let was = c.self.invariant in
    let rows = c.self.inside.parts.rows in (
      was.0,
      was.1,
      was.2,
      record {
        slope = slope_by rows c.new-bounds.result;
        consistent = c.are_consistent.ensures c.if-are_consistent.true;
        fits = fits_by rows c.new-bounds.result was.0;
        kinds = was.3.kinds;
      },
    )
