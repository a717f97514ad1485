use Rattle.topo_perm.proofs.edits.Connecting.{chord_connects}
use Rattle.topo_perm.proofs.edits.EditCounts.{chord_points_law, chord_faces_law}
use Rattle.topo_perm.proofs.edits.Possible.{chord_is_possible}
use Rattle.topo_perm.proofs.laws.edits.chord.Goals as goal

pub returns-clause-points : goal.returns-clause-points
returns-clause-points c = chord_points_law

pub returns-clause-faces : goal.returns-clause-faces
returns-clause-faces c = chord_faces_law

pub returns-clause-connected : goal.returns-clause-connected
returns-clause-connected c = chord_connects

pub returns-clause-possible : goal.returns-clause-possible
returns-clause-possible c = chord_is_possible
