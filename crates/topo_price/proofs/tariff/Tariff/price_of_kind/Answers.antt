use Rattle.std.proofs.Common.{◌≡◌, IfSome, subst}
use Rattle.topo_core.specs.declared.rows.Facts.{Facts}
use Rattle.topo_price.specs.Prices.{IsPriceOf, prices_of}
use Rattle.topo_price.proofs.ByKind.{price_of_kind}
use Rattle.topo_price.proofs.tariff.Tariff.price_of_kind.Goals as goal

pub returns-clause-price : goal.returns-clause-price
returns-clause-price g c = subst (λ ask. IfSome c.price_of_kind.result (λ answer. (facts : Facts) → facts.kind ≡ c.args.kind
    → IsPriceOf (prices_of (g.F.PriceFn.may_return ask)) facts answer)) c.self.view_is
    (price_of_kind (g.F.PriceFn.may_return c.self.inside.ask) c.args.kind c.self.invariant.1 c.price_of_kind.result c.price_of_kind.ensures.answer)
