use Rattle.topo_embedded.proofs.parts.Parts.insert.Given as goal
use Rattle.topo_embedded.specs.Parts.{with_paths}

abbrev pub ghost-add_edge : goal.ghost-add_edge
ghost-add_edge a = with_paths a.self.now
