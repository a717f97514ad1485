use Rattle.std.proofs.Common.{◌≡◌, ℕ, subst, ◌∙◌}
use Rattle.topo_core.specs.History.{versions}
use Rattle.topo_core.specs.Routes.{IsFirst}
use Rattle.topo_book.specs.Books.{BookState}
use Rattle.topo_price.specs.Prices.{prices_of}
use Rattle.topo_service.proofs.FoundRoutes.{first_now}
use Rattle.topo_service.proofs.locked_state.LockedState.stands.Goals as goal

pub returns-then-is_of : goal.returns-then-is_of
returns-then-is_of g c good =
    let b = c.self.inside.book in
    let i = c.self.invariant in
    let found = c.args.found.now in
    let same : found.entries ≡ versions b.history = c.is_of.ensures c.if-is_of.true ∙ i.3 in
    subst (λ (s : BookState _). IsFirst (prices_of (g.F.PriceFn.may_return s.tariff)) s.picture.rows c.args.u c.args.v found.route found.price) c.self.view_is
    (first_now g.F.PriceFn.may_return b.history i.1 i.0 c.history.ensures.legal.replayed c.first.ensures.found same
    (c.is_between.ensures.u c.if-is_between.true) (c.is_between.ensures.v c.if-is_between.true))

pub returns-else-is_of : goal.returns-else-is_of
returns-else-is_of g c good =
    let b = c.self.inside.book in
    let found = c.args.found.now in
    let first = c.outlives.ensures good in
    let from = subst (λ (x : ℕ). IsFirst (prices_of (g.F.PriceFn.may_return b.tariff)) b.picture.rows x found.v found.route found.price)
    (c.is_between.ensures.u c.if-is_between.true) first in
    let to = subst (λ (x : ℕ). IsFirst (prices_of (g.F.PriceFn.may_return b.tariff)) b.picture.rows c.args.u x found.route found.price)
    (c.is_between.ensures.v c.if-is_between.true) from in
    subst (λ (s : BookState _). IsFirst (prices_of (g.F.PriceFn.may_return s.tariff)) s.picture.rows c.args.u c.args.v found.route found.price)
    c.self.view_is to
