use Rattle.topo_perm.proofs.edits.SlabEdits.{chord_keeps_slab, chord_live_faces, chord_live_points}
use Rattle.topo_perm.proofs.laws.slabs.chord.Goals as goal

pub returns-clause-slab : goal.returns-clause-slab
returns-clause-slab c = chord_keeps_slab

pub returns-clause-points : goal.returns-clause-points
returns-clause-points c = chord_live_points

pub returns-clause-faces : goal.returns-clause-faces
returns-clause-faces c = chord_live_faces
