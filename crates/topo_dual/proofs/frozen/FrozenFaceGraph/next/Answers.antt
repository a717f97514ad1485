use Rattle.std.proofs.Common.{◌≡◌, subst}
use Rattle.topo_route.specs.Names.{canonical, next_name}
use Rattle.topo_dual.proofs.frozen.FrozenFaceGraph.next.Goals as goal

pub returns : goal.returns
returns c = subst (λ rows. c.next.result ≡ next_name (canonical rows) c.args.dart) c.as_numbered.ensures.rows c.next.ensures
