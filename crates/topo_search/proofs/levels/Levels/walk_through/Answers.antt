use Rattle.std.proofs.Common.{[], ◌++◌, ◌∷◌}
use Rattle.std.proofs.lemmas.List.Elements.{All-nil, All-push, All-same}
use Rattle.topo_route.specs.Names.{IsName}
use Rattle.topo_search.proofs.levels.Levels.walk_through.Goals as goal

pub reversed-requires : goal.reversed-requires
reversed-requires g c =
    let graph = g.W.FaceGraph.named c.args.graph.now in
    let named = IsName graph in
    All-same named c.deref.result.now c.back_from.new.crossed.items c.deref.ensures.value
    (c.in_ok-start.ensures graph c.requires.near (All-same named c.new-back.result.items [] c.new-back.ensures.items (All-nil named)))

pub returns : goal.returns
returns g c =
    let graph = g.W.FaceGraph.named c.args.graph.now in
    let named = IsName graph in
    c.in_ok-end.ensures graph c.requires.far
    (All-same named c.push.new.self.items (c.in_ok-crossed.crossed.items ++ c.args.met.dart ∷ []) c.in_ok-push.ensures.items
    (All-push named c.in_ok-crossed.crossed.items c.args.met.dart c.in_ok-crossed.ensures c.requires.met))
