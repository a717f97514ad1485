use Rattle.std.proofs.Common.{ap}
use Rattle.std.proofs.lemmas.List.Elements.{All-same}
use Rattle.topo_route.specs.Names.{IsName}
use Rattle.topo_search.proofs.levels.go_round.Goals as goal
use Rattle.topo_search.proofs.levels.go_round.Goals.{in-This, in-None+in_ok-note-in-None}

pub loop-steps-preserved : goal.loop-steps-preserved
loop-steps-preserved g c =
    let graph = g.W.FaceGraph.named c.args.graph.now in
    record {
      at = c.step-next.ensures.name;
      names = elim c.match-owner.branch [
        | in-This w ↦ All-same (IsName graph) c.match-owner.side.darts.items c.loop-steps.side.darts.items (ap (λ s. s.darts.items) w.side-is) c.loop-steps.invariant.names
        | in-None+in_ok-note-in-None w ↦ All-same (IsName graph) c.match-owner.side.darts.items w.note.new.self.darts.items (ap (λ s. s.darts.items) w.side-is)
            (w.in_ok-note-in-None.ensures graph c.loop-steps.invariant.names w.across.ensures.name)
      ];
    }

pub returns-then-dart-first-clause-names : goal.returns-then-dart-first-clause-names
returns-then-dart-first-clause-names g c =
    let graph = g.W.FaceGraph.named c.args.graph.now in
    elim c.match-owner.branch [
      | in-This w ↦ All-same (IsName graph) c.match-owner.side.darts.items c.loop-steps.side.darts.items (ap (λ s. s.darts.items) w.side-is) c.loop-steps.invariant.names
      | in-None+in_ok-note-in-None w ↦ All-same (IsName graph) c.match-owner.side.darts.items w.note.new.self.darts.items (ap (λ s. s.darts.items) w.side-is)
          (w.in_ok-note-in-None.ensures graph c.loop-steps.invariant.names w.across.ensures.name)
    ]
