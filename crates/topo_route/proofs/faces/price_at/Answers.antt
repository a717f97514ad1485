use Rattle.topo_price.specs.Prices.{prices_of}
use Rattle.topo_route.proofs.names.Canonical.{number_is, price_is_at}
use Rattle.topo_route.proofs.faces.price_at.Goals as goal

pub price_at-requires : goal.price_at-requires
price_at-requires g c =
    let dual = c.args.dual.now in
    number_is (g.D.FaceGraph.named dual) (g.D.Dual.shows dual) (g.met.D.Dual.numbered dual) (g.met.D.FaceGraph.lawful dual) c.args.dart c.requires

pub returns-clause-price : goal.returns-clause-price
returns-clause-price g c =
    let dual = c.args.dual.now in
    price_is_at (g.D.FaceGraph.named dual) (g.D.Dual.shows dual) (g.met.D.Dual.numbered dual) (g.met.D.FaceGraph.lawful dual)
    (prices_of (g.F.PriceFn.may_return c.args.tariff.now))
    c.args.dart c.price_at.result c.requires c.price_at.ensures.price
