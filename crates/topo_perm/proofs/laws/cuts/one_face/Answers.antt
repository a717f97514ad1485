use Rattle.topo_perm.proofs.edits.Bypassing.{one_face_law, taken_out_parts}
use Rattle.topo_perm.proofs.laws.cuts.one_face.Goals as goal

pub returns-clause-ends : goal.returns-clause-ends
returns-clause-ends c = one_face_law

pub returns-clause-taken_out : goal.returns-clause-taken_out
returns-clause-taken_out c = taken_out_parts
