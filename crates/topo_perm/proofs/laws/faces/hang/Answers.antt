use Rattle.topo_perm.proofs.edits.FacesKept.{hang_keeps_faces, hang_sides}
use Rattle.topo_perm.proofs.laws.faces.hang.Goals as goal

pub returns-clause-kept : goal.returns-clause-kept
returns-clause-kept c = hang_keeps_faces

pub returns-clause-sides : goal.returns-clause-sides
returns-clause-sides c = hang_sides
