use Rattle.topo_book.proofs.refused.+refused_among.Given as goal

abbrev pub decreases-refused_among : goal.decreases-refused_among
decreases-refused_among l = l.most
