use Rattle.std.proofs.Common.{◌++◌, take}
use Rattle.topo_versions.specs.Names.{prices_named}
use Rattle.topo_versions.specs.Versions.{IsVersionFrom}
use Rattle.topo_service.proofs.planned.inbox.apply_all.Given as goal

abbrev pub invariant-loop-index : goal.invariant-loop-index
invariant-loop-index g l = IsVersionFrom (prices_named g.F.PriceFn.may_return g.K.ServiceBrand.closure) g.K.ServiceBrand.start
    (l.from ++ take l.index l.entries) l.picture
