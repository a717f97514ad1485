use Rattle.topo_perm.proofs.edits.SlabEdits.{hang_keeps_slab, hang_live_faces, hang_live_points}
use Rattle.topo_perm.proofs.laws.slabs.hang.Goals as goal

pub returns-clause-slab : goal.returns-clause-slab
returns-clause-slab c = hang_keeps_slab

pub returns-clause-points : goal.returns-clause-points
returns-clause-points c = hang_live_points

pub returns-clause-faces : goal.returns-clause-faces
returns-clause-faces c = hang_live_faces
