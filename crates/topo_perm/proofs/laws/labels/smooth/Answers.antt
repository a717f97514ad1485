use Rattle.topo_perm.proofs.edits.LabelledFaces.{smooth_labels}
use Rattle.topo_perm.proofs.laws.labels.smooth.Goals as goal

pub returns : goal.returns
returns c = smooth_labels
