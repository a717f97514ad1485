use Rattle.topo_perm.proofs.edits.Connecting.{split_connects}
use Rattle.topo_perm.proofs.edits.EditCounts.{split_permutation, split_points_law, split_faces_law}
use Rattle.topo_perm.proofs.edits.Possible.{split_is_possible}
use Rattle.topo_perm.proofs.laws.edits.split.Goals as goal

pub returns-clause-permutation : goal.returns-clause-permutation
returns-clause-permutation c = split_permutation

pub returns-clause-points : goal.returns-clause-points
returns-clause-points c = split_points_law

pub returns-clause-faces : goal.returns-clause-faces
returns-clause-faces c = split_faces_law

pub returns-clause-connected : goal.returns-clause-connected
returns-clause-connected c = split_connects

pub returns-clause-possible : goal.returns-clause-possible
returns-clause-possible c = split_is_possible
