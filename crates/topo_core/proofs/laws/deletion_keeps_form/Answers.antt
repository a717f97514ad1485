use Rattle.topo_core.proofs.deleting.WithoutForm.{without_well_formed}
use Rattle.topo_core.proofs.laws.deletion_keeps_form.Goals as goal

pub returns : goal.returns
returns c = without_well_formed
