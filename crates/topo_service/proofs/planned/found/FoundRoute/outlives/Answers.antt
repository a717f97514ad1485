use Rattle.std.proofs.Common.{◌≡◌, ◌+◌, ◌-◌, List, IfSome, length, ap, subst, arith}
use Rattle.std.specs.Prelude.{Option}
use Rattle.topo_core.specs.declared.calls.Entry.{Entry}
use Rattle.topo_core.specs.History.{IsPrefix, versions}
use Rattle.topo_core.specs.Routes.{IsFirst}
use Rattle.topo_price.specs.Prices.{prices_of}
use Rattle.topo_rows.specs.Shown.{Shown}
use Rattle.topo_book.specs.Sparing.{HaveSpared}
use Rattle.topo_route.specs.Regions.{RegionState}
use Rattle.topo_versions.specs.Names.{prices_named}
use Rattle.topo_service.specs.Found.{FoundState, IsHeldBy}
use Rattle.topo_service.proofs.FoundRoutes.{still_first_now}
use Rattle.topo_service.proofs.Versions.{begins_length}
use Rattle.topo_service.proofs.planned.found.FoundRoute.outlives.Goals as goal

pub returns-then-is_prefix_of : goal.returns-then-is_prefix_of
returns-then-is_prefix_of g c good =
    let answers = g.F.PriceFn.may_return in
    let closure = g.K.ServiceBrand.closure in
    let book = c.args.book.now in
    let f = c.self.inside in
    let entries = f.version.entries in
    let accepted = c.len.result - c.len-then-is_prefix_of.result in
    let seen : c.prefix-before.result.now ≡ entries = c.prefix-before.ensures in
    let there : IsPrefix entries (versions book.history) =
    subst (λ (es : List Entry). IsPrefix es (versions book.history)) seen
    (subst (λ (es : List Entry). IsPrefix c.prefix-before.result.now es) c.requires.entries (c.is_prefix_of.ensures.prefix c.if-is_prefix_of.true)) in
    let count : length (versions book.history) ≡ length entries + accepted =
    omega (
      arith,
      begins_length entries (versions book.history) there,
      c.len.ensures.len,
      c.len-then-is_prefix_of.ensures.len,
      ap length seen,
      ap length c.requires.entries,
    ) in
    let spared = subst (λ (s : Shown). HaveSpared s.rows c.in-Some.region book.history accepted) c.picture-then-is_prefix_of.ensures.picture
    (c.has_spared.ensures good) in
    let held = subst (λ (o : Option RegionState). IfSome o (IsHeldBy (prices_named answers closure) f.version.picture.rows f.u f.v f.first.route f.first.price))
    c.in-Some.is c.self.invariant.1 in
    subst (λ (s : FoundState). IsFirst (prices_of (answers book.tariff)) book.picture.rows s.u s.v s.route s.price) c.self.view_is
    (still_first_now answers c.requires.named c.requires.begun c.history.ensures.legal.on_the_way c.picture.ensures.version there count spared held)
