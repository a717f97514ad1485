use Rattle.topo_search.proofs.finder.Finder.by_levels.Goals as goal

pub returns : goal.returns
returns c = rw (c.in-Some-3.is, c.embedded-graph.ensures) at c.in_ok-route.ensures
