use Rattle.topo_map.proofs.Parts.{length_parts}
use Rattle.topo_map.proofs.segments.limit.Goals as goal

pub returns-clause-slots : goal.returns-clause-slots
returns-clause-slots c = length_parts c.segments.inside.walks.items c.segments.inside.rest c.segments.invariant c.segments.view_is
