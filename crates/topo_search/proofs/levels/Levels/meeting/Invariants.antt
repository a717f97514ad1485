use Rattle.std.specs.Prelude.{All}
use Rattle.topo_route.specs.Names.{IsName}
use Rattle.topo_search.proofs.levels.Levels.meeting.Given as goal

-- the darts of both ends are named
abbrev pub invariant-loop-level : goal.invariant-loop-level
invariant-loop-level g l =
    record {
      near : All (IsName (g.W.FaceGraph.named l.graph)) l.self.near.darts.items;
      far : All (IsName (g.W.FaceGraph.named l.graph)) l.self.far.darts.items;
    }
