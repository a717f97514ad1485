use Rattle.topo_core.proofs.inserting.ShownForm.{shown_well_formed}
use Rattle.topo_core.proofs.inserting.ShownTurns.{shows_turns}
use Rattle.topo_core.proofs.laws.insertion_shows_turns.Goals as goal

pub returns : goal.returns
returns c rows u v kind r good may = shows_turns rows u v kind r good may (shown_well_formed rows u v kind r good may)
