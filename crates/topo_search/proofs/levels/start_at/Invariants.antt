use Rattle.std.specs.Prelude.{All}
use Rattle.topo_route.specs.Names.{IsName}
use Rattle.topo_search.proofs.levels.start_at.Given as goal

-- the darts are named
abbrev pub invariant-loop-i : goal.invariant-loop-i
invariant-loop-i g l = All (IsName (g.W.FaceGraph.named l.graph)) l.side.darts.items
