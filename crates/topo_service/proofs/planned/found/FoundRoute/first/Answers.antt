use Rattle.std.proofs.Common.{subst}
use Rattle.topo_versions.specs.Names.{prices_named}
use Rattle.topo_service.specs.Found.{IsFoundRoute}
use Rattle.topo_service.proofs.planned.found.FoundRoute.first.Goals as goal

pub returns-clause-found : goal.returns-clause-found
returns-clause-found g c =
    subst (IsFoundRoute (prices_named g.F.PriceFn.may_return g.K.ServiceBrand.closure) g.K.ServiceBrand.start) c.self.view_is (record {
      picture = c.self.inside.version.picture.rows;
      replayed = c.picture.ensures.version.replayed;
      first = c.self.invariant.0;
    })
