use Rattle.topo_embedded.proofs.parts.Parts.add_edge.Given as goal

abbrev pub ghost-add_route : goal.ghost-add_route
ghost-add_route g a = g.p
