use Rattle.std.proofs.Common.{◌+◌, subst, sym}
use Rattle.topo_table.specs.Places.{AreBelow}
use Rattle.topo_kept_rows.proofs.rows.Keeping.{below_more}
use Rattle.topo_kept_rows.proofs.rows.KeepingEdges.{edge_put, own_more}
use Rattle.topo_kept_rows.proofs.kept.put_edge.Goals as goal

pub returns-clause-edges : goal.returns-clause-edges
returns-clause-edges c = edge_put c.args.edges.now c.push.new.self c.args.row.id c.args.row c.push.ensures.entries

pub returns-clause-below : goal.returns-clause-below
returns-clause-below c = subst (AreBelow (c.args.row.id + 1)) (sym c.push.ensures.slots) (below_more c.args.row.id _ c.args.edges.now.slots c.requires.below)

pub returns-clause-own : goal.returns-clause-own
returns-clause-own c = own_more c.args.edges.now c.push.new.self c.args.row c.push.ensures.entries c.requires.own
