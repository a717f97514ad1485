use Rattle.topo_perm.proofs.edits.SlabEdits.{split_keeps_slab, split_live_faces, split_live_points}
use Rattle.topo_perm.proofs.laws.slabs.split.Goals as goal

pub returns-clause-slab : goal.returns-clause-slab
returns-clause-slab c = split_keeps_slab

pub returns-clause-points : goal.returns-clause-points
returns-clause-points c = split_live_points

pub returns-clause-faces : goal.returns-clause-faces
returns-clause-faces c = split_live_faces
