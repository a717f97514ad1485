use Rattle.topo_embedded.proofs.parts.Parts.take_out.Given as goal

abbrev pub ghost-delete_lists : goal.ghost-delete_lists
ghost-delete_lists g a = g.rows
