use Rattle.std.specs.Prelude.{All}
use Rattle.topo_route.specs.Names.{IsName}
use Rattle.topo_search.proofs.levels.go_round.Given as goal

-- where the walk is has a name, and so have the darts
abbrev pub invariant-loop-steps : goal.invariant-loop-steps
invariant-loop-steps g l =
    record {
      at : IsName (g.W.FaceGraph.named l.graph) l.dart;
      names : All (IsName (g.W.FaceGraph.named l.graph)) l.side.darts.items;
    }
