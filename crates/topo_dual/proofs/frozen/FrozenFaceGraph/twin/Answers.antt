use Rattle.std.proofs.Common.{◌≡◌, subst}
use Rattle.topo_route.specs.Names.{canonical, twin_name}
use Rattle.topo_dual.proofs.frozen.FrozenFaceGraph.twin.Goals as goal

pub returns : goal.returns
returns c = subst (λ rows. c.twin.result ≡ twin_name (canonical rows) c.args.dart) c.as_numbered.ensures.rows c.twin.ensures
