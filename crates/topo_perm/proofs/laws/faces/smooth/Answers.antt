use Rattle.topo_perm.proofs.edits.FacesKept.{smooth_keeps_faces}
use Rattle.topo_perm.proofs.laws.faces.smooth.Goals as goal

pub returns : goal.returns
returns c = smooth_keeps_faces
