use Rattle.topo_book.proofs.sparing.+have_spared.Given as goal

abbrev pub decreases-have_spared : goal.decreases-have_spared
decreases-have_spared l = l.most
