use Rattle.std.specs.Prelude.{◌≡◌, map, take}
use Rattle.topo_route.specs.Names.{dart_named}
use Rattle.topo_search.proofs.simple.darts_named.Given as goal

-- the darts of the names so far
abbrev pub invariant-loop-name : goal.invariant-loop-name
invariant-loop-name g l = l.darts.items ≡ map (dart_named (g.W.FaceGraph.named l.graph)) (take l.name-index l.names)
