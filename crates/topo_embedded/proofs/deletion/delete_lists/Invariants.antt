use Rattle.topo_embedded.proofs.deletion.delete_lists.Given as goal

abbrev pub ghost-open_path : goal.ghost-open_path
ghost-open_path g a = g.rows

abbrev pub ghost-smooth_path : goal.ghost-smooth_path
ghost-smooth_path g a = g.rows
