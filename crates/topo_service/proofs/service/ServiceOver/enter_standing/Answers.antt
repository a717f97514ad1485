use Rattle.std.proofs.Common.{◌≡◌, subst}
use Rattle.topo_core.specs.declared.calls.Call.{Call}
use Rattle.topo_core.specs.declared.calls.Call.TheVariants.{Insert}
use Rattle.topo_service.specs.Answers.{HasReceiptOf}
use Rattle.topo_versions.specs.Names.{prices_named}
use Rattle.topo_service.proofs.service.ServiceOver.enter_standing.Goals as goal

pub returns-clause-receipt : goal.returns-clause-receipt
returns-clause-receipt g c entered =
    let price = prices_named g.F.PriceFn.may_return g.K.ServiceBrand.closure in
    let call : Call = Insert c.ends-u.result.0 c.ends-u.result.1 c.args.kind in
    let same : call ≡ Insert c.args.found.now.u c.args.found.now.v c.args.kind = cc (c.ends-u.ensures.u, c.ends-u.ensures.v) in
    subst (λ (made : Call). HasReceiptOf price g.K.ServiceBrand.start c.args.pass.now c.enter_in.new.pass made) same
    c.in_ok-enter_in.ensures.answered.kept
