use Rattle.std.proofs.Common.{◌∙◌, ap}
use Rattle.topo_route.specs.Names.{Named}
use Rattle.topo_route.proofs.faces.dart_count.Goals as goal

pub returns : goal.returns
returns g c = c.size.ensures ∙ ap (λ (n : Named). n.size) (g.met.D.Dual.numbered c.args.dual.now)
