use Rattle.topo_perm.proofs.edits.Connecting.{hang_connects}
use Rattle.topo_perm.proofs.edits.EditCounts.{hang_points_law, hang_faces_law}
use Rattle.topo_perm.proofs.edits.Possible.{hang_is_possible}
use Rattle.topo_perm.proofs.laws.edits.hang.Goals as goal

pub returns-clause-points : goal.returns-clause-points
returns-clause-points c = hang_points_law

pub returns-clause-faces : goal.returns-clause-faces
returns-clause-faces c = hang_faces_law

pub returns-clause-connected : goal.returns-clause-connected
returns-clause-connected c = hang_connects

pub returns-clause-possible : goal.returns-clause-possible
returns-clause-possible c = hang_is_possible
