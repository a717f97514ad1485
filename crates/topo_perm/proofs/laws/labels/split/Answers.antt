use Rattle.topo_perm.proofs.edits.LabelledFaces.{split_labels}
use Rattle.topo_perm.proofs.laws.labels.split.Goals as goal

pub returns : goal.returns
returns c = split_labels
