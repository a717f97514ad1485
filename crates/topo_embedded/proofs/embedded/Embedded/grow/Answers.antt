use Rattle.topo_embedded.proofs.growing.Grown.{grown_formed}
use Rattle.topo_embedded.proofs.embedded.Embedded.grow.Goals as goal

pub invariant_of-self : goal.invariant_of-self
invariant_of-self c = (
  grown_formed c.grow.result c.self.view_is c.self.invariant.0 c.requires.vertex c.requires.position c.requires.known c.grow.ensures.ok c.grow.ensures.err,
  c.grow.ensures.shows,
  c.grow.ensures.kept,
  c.grow.ensures.searches,
)
