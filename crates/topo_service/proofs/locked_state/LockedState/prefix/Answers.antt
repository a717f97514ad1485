use Rattle.std.proofs.Common.{◌≡◌, ap}
use Rattle.topo_price.specs.Prices.{prices_of}
use Rattle.topo_service.proofs.Versions.{is_version}
use Rattle.topo_service.proofs.locked_state.LockedState.prefix.Goals as goal

pub returns-clause-replayed : goal.returns-clause-replayed
returns-clause-replayed g c =
    let b = c.self.inside.book in
    let i = c.self.invariant in
    let same : b.picture ≡ c.args.self.now.picture = ap (λ s. s.picture) c.self.view_is in
    rw (i.3, ← same, ← i.0, i.1)
    (is_version (prices_of (g.F.PriceFn.may_return b.tariff)) b.start.limits b.start.rows b.picture.rows b.history c.history.ensures.legal.replayed)
