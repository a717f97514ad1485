use Rattle.topo_service.specs.Commands.{HasDone}
use Rattle.topo_versions.specs.Names.{prices_named}
use Rattle.topo_service.proofs.workers.work.Given as goal

abbrev pub invariant-loop-index : goal.invariant-loop-index
invariant-loop-index g l =
    HasDone (prices_named g.F.PriceFn.may_return g.K.ServiceBrand.closure) g.K.ServiceBrand.start l.initial.pass l.pass l.list l.index
