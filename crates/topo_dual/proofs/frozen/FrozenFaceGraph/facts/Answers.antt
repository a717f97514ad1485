use Rattle.std.proofs.Common.{subst}
use Rattle.topo_core.specs.Picture.{edge_at}
use Rattle.topo_core.specs.Routes.{AreFactsOf}
use Rattle.topo_route.specs.Names.{canonical, dart_named}
use Rattle.topo_dual.proofs.frozen.FrozenFaceGraph.facts.Goals as goal

pub returns : goal.returns
returns c = subst (λ rows. AreFactsOf (edge_at rows (dart_named (canonical rows) c.args.dart).edge) c.facts.result) c.as_numbered.ensures.rows c.facts.ensures
