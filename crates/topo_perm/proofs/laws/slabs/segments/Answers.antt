use Rattle.topo_perm.proofs.edits.SlabEdits.{free_segments_fall, segments_grow}
use Rattle.topo_perm.proofs.laws.slabs.segments.Goals as goal

pub returns-clause-live : goal.returns-clause-live
returns-clause-live c = segments_grow

pub returns-clause-free : goal.returns-clause-free
returns-clause-free c = free_segments_fall
