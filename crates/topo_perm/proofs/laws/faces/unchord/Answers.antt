use Rattle.topo_perm.proofs.edits.FacesKept.{unchord_keeps_faces}
use Rattle.topo_perm.proofs.laws.faces.unchord.Goals as goal

pub returns : goal.returns
returns c = unchord_keeps_faces
