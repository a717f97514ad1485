use Rattle.std.proofs.Common.{◌≡◌, None, Some, subst}
use Rattle.topo_price.specs.Prices.{prices_of}
use Rattle.topo_book.proofs.UncrossedRoutes.{first_found}
use Rattle.topo_book.proofs.fullness.find_uncrossed.Goals as goal

pub returns : goal.returns
returns g c =
    first_found (prices_of (g.F.PriceFn.may_return c.args.tariff.now)) (prices_of (g.N.PriceFn.may_return c.new-closed.result)) c.keeps_promise.ensures
    (λ facts n told.
    let is : Some n ≡ None = c.requires.none facts (Some n) (subst (λ f. g.N.PriceFn.may_return f facts (Some n)) c.new-closed.ensures told) in
    cc)
    (g.W.FaceGraph.named c.args.graph.now).rows c.args.ends.0 c.args.ends.1 c.first_route.result c.first_route.ensures
