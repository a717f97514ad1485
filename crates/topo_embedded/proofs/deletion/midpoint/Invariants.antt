use Rattle.topo_embedded.proofs.deletion.midpoint.Given as goal

abbrev pub ghost-leads_along : goal.ghost-leads_along
ghost-leads_along g a = g.rows
