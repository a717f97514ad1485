use Rattle.topo_script.proofs.TokenRequests.{face_asked}
use Rattle.topo_script.proofs.token_requests.token_face.Goals as goal

pub returns : goal.returns
returns c = face_asked c.in_ok-edge.ensures c.in_ok-seg.ensures c.in_ok-way.ensures c.in_ok-end_array.ensures
