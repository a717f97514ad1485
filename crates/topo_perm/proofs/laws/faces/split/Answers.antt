use Rattle.topo_perm.proofs.edits.FacesKept.{split_keeps_faces, split_sides}
use Rattle.topo_perm.proofs.laws.faces.split.Goals as goal

pub returns-clause-kept : goal.returns-clause-kept
returns-clause-kept c = split_keeps_faces

pub returns-clause-sides : goal.returns-clause-sides
returns-clause-sides c = split_sides
