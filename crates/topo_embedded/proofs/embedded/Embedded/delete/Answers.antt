use Rattle.topo_table.specs.Places.{values_in}
use Rattle.topo_embedded.proofs.deleting.Without.{without_formed}
use Rattle.topo_embedded.proofs.embedded.Embedded.delete.Goals as goal

pub invariant_of-self : goal.invariant_of-self
invariant_of-self c = (
  without_formed c.args.self.now c.self.inside.parts.rows c.delete.new.self.rows
      (values_in c.self.inside.parts.paths) c.args.edge c.self.view_is c.self.invariant.0
      c.requires.there c.delete.ensures.rows,
  c.delete.ensures.shows,
  c.delete.ensures.kept,
  c.delete.ensures.searches,
)
