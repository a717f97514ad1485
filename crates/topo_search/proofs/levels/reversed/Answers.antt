use Rattle.std.proofs.Common.{[], ◌++◌, ◌∷◌}
use Rattle.std.proofs.lemmas.List.Elements.{All-push, All-same}
use Rattle.topo_route.specs.Names.{IsName}
use Rattle.topo_search.proofs.levels.reversed.Goals as goal

pub loop-i-preserved : goal.loop-i-preserved
loop-i-preserved g c =
    let named = IsName (g.W.FaceGraph.named c.args.graph.now) in
    All-same named c.push.new.self.items (c.loop-i.list.items ++ c.across.result ∷ []) c.in_ok-push.ensures.items
    (All-push named c.loop-i.list.items c.across.result c.loop-i.invariant c.across.ensures.name)
