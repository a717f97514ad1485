use Rattle.std.proofs.Common.{◌∙◌, ap, length}
use Rattle.topo_core.specs.Picture.{rotation}
use Rattle.topo_route.specs.Names.{Named}
use Rattle.topo_route.proofs.faces.degree.Goals as goal

pub returns : goal.returns
returns g c = c.degree.ensures ∙ ap (λ (n : Named). length (rotation n.rows c.args.v)) (g.met.D.Dual.numbered c.args.dual.now)
