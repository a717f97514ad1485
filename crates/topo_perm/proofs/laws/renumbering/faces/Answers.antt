use Rattle.topo_perm.proofs.renumbering.Renumbered.{renumbered_faces}
use Rattle.topo_perm.proofs.laws.renumbering.faces.Goals as goal

pub returns : goal.returns
returns c = renumbered_faces
