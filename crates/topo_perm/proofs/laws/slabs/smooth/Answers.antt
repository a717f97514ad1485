use Rattle.topo_perm.proofs.edits.SlabEdits.{smooth_keeps_slab, smooth_live_faces, smooth_live_points}
use Rattle.topo_perm.proofs.laws.slabs.smooth.Goals as goal

pub returns-clause-slab : goal.returns-clause-slab
returns-clause-slab c = smooth_keeps_slab

pub returns-clause-points : goal.returns-clause-points
returns-clause-points c = smooth_live_points

pub returns-clause-faces : goal.returns-clause-faces
returns-clause-faces c = smooth_live_faces
