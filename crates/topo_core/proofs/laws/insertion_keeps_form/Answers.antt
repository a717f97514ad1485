use Rattle.topo_core.proofs.inserting.ShownForm.{shown_well_formed}
use Rattle.topo_core.proofs.laws.insertion_keeps_form.Goals as goal

pub returns : goal.returns
returns c = shown_well_formed
