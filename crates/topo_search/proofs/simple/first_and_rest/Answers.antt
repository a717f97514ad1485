use Rattle.std.proofs.Common.{[], ◌∷◌, sym}
use Rattle.std.proofs.lemmas.List.Elements.{All-head, All-same, All-tail}
use Rattle.topo_route.specs.Names.{IsName}
use Rattle.topo_search.proofs.simple.first_and_rest.Goals as goal

pub returns-in-Some : goal.returns-in-Some
returns-in-Some g c =
    let named = IsName (g.W.FaceGraph.named c.args.graph.now) in
    let parts = c.in-Some.ensures.cases.0 in
    let all = All-same named (c.in-Some.first.now ∷ c.in-Some.rest.now) c.args.darts.now (sym parts) c.requires in
    record { parts = parts; first = All-head named c.in-Some.first.now c.in-Some.rest.now all; rest = All-tail named c.in-Some.first.now c.in-Some.rest.now all }
