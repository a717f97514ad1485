use Rattle.std.proofs.Common.{arith}
use Rattle.topo_price.specs.Prices.{prices_of}
use Rattle.topo_route.proofs.names.Canonical.{lawful_shown}
use Rattle.topo_route.proofs.plans.Verdicts.{first_verdict, own_verdict}
use Rattle.topo_route.proofs.check.check.Goals as goal

pub returns-clause-first : goal.returns-clause-first
returns-clause-first g c = grind (arith, first_verdict, lawful_shown)

pub returns-clause-own : goal.returns-clause-own
returns-clause-own g c =
    own_verdict (prices_of (g.F.PriceFn.may_return c.args.tariff.now)) (g.D.Dual.shows c.args.dual.now) c.args.u c.args.v c.args.plan.now
    (lawful_shown (g.met.D.Dual.numbered c.args.dual.now) (g.met.D.FaceGraph.lawful c.args.dual.now))
    c.verdict.result c.verdict.ensures.verdict
