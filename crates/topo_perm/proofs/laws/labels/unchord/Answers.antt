use Rattle.topo_perm.proofs.edits.LabelledFaces.{unchord_labels}
use Rattle.topo_perm.proofs.laws.labels.unchord.Goals as goal

pub returns : goal.returns
returns c = unchord_labels
