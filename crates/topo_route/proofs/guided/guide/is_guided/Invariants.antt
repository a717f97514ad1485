use Rattle.std.proofs.Common.{◌<◌, ◌≤◌, ℕ}
use Rattle.topo_core.specs.declared.rows.Facts.{Facts}
use Rattle.topo_price.specs.Prices.{prices_of}
use Rattle.topo_route.proofs.guided.guide.is_guided.Given as goal

abbrev pub invariant-loop-kind : goal.invariant-loop-kind
invariant-loop-kind g l = (facts : Facts) (n : ℕ) → facts.kind < l.kind → prices_of (g.F.PriceFn.may_return l.tariff) facts n
    → g.W.FaceGraph.floor l.graph facts.kind ≤ n
