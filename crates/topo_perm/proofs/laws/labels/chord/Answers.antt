use Rattle.topo_perm.proofs.edits.LabelledFaces.{chord_labels}
use Rattle.topo_perm.proofs.laws.labels.chord.Goals as goal

pub returns : goal.returns
returns c = chord_labels
