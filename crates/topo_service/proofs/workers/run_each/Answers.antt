use Rattle.std.proofs.Common.{◌<◌, length, subst, arith}
use Rattle.topo_versions.specs.Names.{prices_named}
use Rattle.topo_versions.specs.Versions.{AreLegal}
use Rattle.topo_service.specs.Passes.{PassState}
use Rattle.topo_service.proofs.workers.run_each.Goals as goal

pub returns-clause-legal : goal.returns-clause-legal
returns-clause-legal g c i p lt =
    let here : i < length c.args.passes.now = omega (arith, lt, c.requires) in
    let at = (c.for_each_mut.ensures i p here).1 in
    subst (λ (s : PassState). AreLegal (prices_named g.F.PriceFn.may_return g.K.ServiceBrand.closure) g.K.ServiceBrand.start s.seen) at.left at.call.1
