use Rattle.topo_core.proofs.inserting.UndoneInsertions.{insertion_undone}
use Rattle.topo_core.proofs.laws.insertion_is_undone.Goals as goal

pub returns : goal.returns
returns c = insertion_undone
