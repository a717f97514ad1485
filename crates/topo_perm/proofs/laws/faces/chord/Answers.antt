use Rattle.topo_perm.proofs.edits.FacesKept.{chord_keeps_faces, chord_sides}
use Rattle.topo_perm.proofs.laws.faces.chord.Goals as goal

pub returns-clause-kept : goal.returns-clause-kept
returns-clause-kept c = chord_keeps_faces

pub returns-clause-sides : goal.returns-clause-sides
returns-clause-sides c = chord_sides
