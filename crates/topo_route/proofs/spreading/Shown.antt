-- The faces of a picture with prices are those of a lawful picture.
use Rattle.topo_core.specs.Lawful.{Lawful}
use Rattle.topo_price.specs.declared.tariff.PriceFn as PriceFn
use Rattle.topo_route.specs.declared.face_graph.FaceGraph as FaceGraph
use Rattle.topo_route.specs.declared.priced_graph.PricedGraph.{PricedGraph}
use Rattle.topo_route.specs.Names.{HasFaces, IsNamed}
use Rattle.topo_route.specs.PricedFaces.{AreFaces}
use Rattle.topo_route.specs.Searches.{priced_faces}

pub are_faces : {W F : Type 0} (w : FaceGraph.Ghosts W) (f : PriceFn.Ghosts F) → ((graph : W) → Lawful (w.named graph).rows)
    → ((graph : W) → IsNamed (w.named graph)) → ((graph : W) → HasFaces (w.named graph) (w.face_of graph) (w.face_bound graph))
    → (priced : PricedGraph W F) → AreFaces (priced_faces w f priced)
are_faces w f lawful names labels priced = record { lawful = lawful priced.graph.now; names = names priced.graph.now; labels = labels priced.graph.now }
