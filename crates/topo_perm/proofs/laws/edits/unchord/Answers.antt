use Rattle.topo_perm.proofs.edits.Connecting.{unchord_connects}
use Rattle.topo_perm.proofs.edits.EditCounts.{unchord_points_law, unchord_faces_law}
use Rattle.topo_perm.proofs.edits.Possible.{unchord_is_possible}
use Rattle.topo_perm.proofs.laws.edits.unchord.Goals as goal

pub returns-clause-points : goal.returns-clause-points
returns-clause-points c = unchord_points_law

pub returns-clause-faces : goal.returns-clause-faces
returns-clause-faces c = unchord_faces_law

pub returns-clause-connected : goal.returns-clause-connected
returns-clause-connected c = unchord_connects

pub returns-clause-possible : goal.returns-clause-possible
returns-clause-possible c = unchord_is_possible
