use Rattle.topo_perm.proofs.edits.Connecting.{smooth_connects}
use Rattle.topo_perm.proofs.edits.EditCounts.{smoothing_permutation, smoothing_smooth, smooth_points_law, smooth_faces_law}
use Rattle.topo_perm.proofs.edits.Possible.{smooth_is_possible}
use Rattle.topo_perm.proofs.laws.edits.smooth.Goals as goal

pub returns-clause-permutation : goal.returns-clause-permutation
returns-clause-permutation c = smoothing_permutation

pub returns-clause-smooth : goal.returns-clause-smooth
returns-clause-smooth c = smoothing_smooth

pub returns-clause-points : goal.returns-clause-points
returns-clause-points c = smooth_points_law

pub returns-clause-faces : goal.returns-clause-faces
returns-clause-faces c = smooth_faces_law

pub returns-clause-connected : goal.returns-clause-connected
returns-clause-connected c = smooth_connects

pub returns-clause-possible : goal.returns-clause-possible
returns-clause-possible c = smooth_is_possible
