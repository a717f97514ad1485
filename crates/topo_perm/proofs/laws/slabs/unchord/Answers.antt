use Rattle.topo_perm.proofs.edits.SlabEdits.{unchord_keeps_slab, unchord_live_faces, unchord_live_points}
use Rattle.topo_perm.proofs.laws.slabs.unchord.Goals as goal

pub returns-clause-slab : goal.returns-clause-slab
returns-clause-slab c = unchord_keeps_slab

pub returns-clause-points : goal.returns-clause-points
returns-clause-points c = unchord_live_points

pub returns-clause-faces : goal.returns-clause-faces
returns-clause-faces c = unchord_live_faces
