use Rattle.topo_perm.proofs.edits.LabelledFaces.{hang_labels}
use Rattle.topo_perm.proofs.laws.labels.hang.Goals as goal

pub returns : goal.returns
returns c = hang_labels
