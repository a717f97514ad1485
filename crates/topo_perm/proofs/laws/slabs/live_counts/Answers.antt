use Rattle.topo_perm.proofs.edits.Slabs.{live_points_law, live_segments_law, live_faces_law}
use Rattle.topo_perm.proofs.laws.slabs.live_counts.Goals as goal

pub returns-clause-points : goal.returns-clause-points
returns-clause-points c = live_points_law

pub returns-clause-segments : goal.returns-clause-segments
returns-clause-segments c = live_segments_law

pub returns-clause-faces : goal.returns-clause-faces
returns-clause-faces c = live_faces_law
