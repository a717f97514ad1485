use Rattle.topo_embedded.proofs.parts.Parts.delete.Given as goal

abbrev pub ghost-take_out : goal.ghost-take_out
ghost-take_out a = a.self.now.rows
