use Rattle.topo_embedded.proofs.insertion.add_route.Given as goal

abbrev pub ghost-split_crossed : goal.ghost-split_crossed
ghost-split_crossed g a = g.p
