use Rattle.topo_perm.proofs.edits.Bypassing.{two_faces_law, two_faces_keep, taken_out_keeps}
use Rattle.topo_perm.proofs.laws.cuts.two_faces.Goals as goal

pub returns-clause-ends : goal.returns-clause-ends
returns-clause-ends c = two_faces_law

pub returns-clause-all : goal.returns-clause-all
returns-clause-all c = two_faces_keep

pub returns-clause-taken_out : goal.returns-clause-taken_out
returns-clause-taken_out c = taken_out_keeps
