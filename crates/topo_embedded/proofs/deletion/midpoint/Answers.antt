use Rattle.std.proofs.Common.{ap, ◌∙◌}
use Rattle.topo_map.specs.Rotation.{edge_of, turn}
use Rattle.topo_core.specs.Rotations.{twin}
use Rattle.topo_embedded.specs.Opening.{leads_in}
use Rattle.topo_embedded.proofs.deleting.OpenedPath.{behind_leads, over_leads}
use Rattle.topo_table.specs.Places.{values_in}
use Rattle.topo_embedded.proofs.deletion.midpoint.Goals as goal

pub returns-then-leads_along : goal.returns-then-leads_along
returns-then-leads_along g c = over_leads (leads_in g.rows (values_in c.args.paths.now) (edge_of c.args.segments.now)) (turn c.args.segments.now)
    (twin c.args.before) c.args.behind c.turn-over.result c.leads_along.result
    (c.turn-over.ensures.turn ∙ ap (turn c.args.segments.now) c.twin.ensures) c.leads_along.ensures c.if-leads_along.true

pub returns-else-leads_along : goal.returns-else-leads_along
returns-else-leads_along g c = behind_leads (leads_in g.rows (values_in c.args.paths.now) (edge_of c.args.segments.now)) (turn c.args.segments.now)
    (twin c.args.before) c.args.behind c.turn-over.result c.leads_along.result
    (c.turn-over.ensures.turn ∙ ap (turn c.args.segments.now) c.twin.ensures) c.leads_along.ensures c.if-leads_along.false c.turn.result c.turn.ensures.turn
