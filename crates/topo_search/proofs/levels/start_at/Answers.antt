use Rattle.std.proofs.Common.{ap}
use Rattle.std.proofs.lemmas.List.Elements.{All-same}
use Rattle.topo_route.specs.Names.{IsName}
use Rattle.topo_search.proofs.levels.start_at.Goals as goal
use Rattle.topo_search.proofs.levels.start_at.Goals.{in-Some+in-This, in-Some+in-None+in_ok-note-in-None, in_default}

pub loop-i-preserved : goal.loop-i-preserved
loop-i-preserved g c =
    let graph = g.W.FaceGraph.named c.args.graph.now in
    elim c.match-corner_at.branch [
      | in-Some+in-This w ↦ All-same (IsName graph) c.match-corner_at.side.darts.items c.loop-i.side.darts.items (ap (λ s. s.darts.items) w.side-is) c.loop-i.invariant
      | in-Some+in-None+in_ok-note-in-None w ↦ All-same (IsName graph) c.match-corner_at.side.darts.items w.note.new.self.darts.items (ap (λ s. s.darts.items) w.side-is)
          (w.in_ok-note-in-None.ensures graph c.loop-i.invariant w.in-Some.ensures.0)
      | in_default w ↦ All-same (IsName graph) c.match-corner_at.side.darts.items c.loop-i.side.darts.items (ap (λ s. s.darts.items) w.side-is) c.loop-i.invariant
    ]
