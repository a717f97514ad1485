use Rattle.std.proofs.Common.{◌≡◌, Err, rules}
use Rattle.topo_script.specs.Sessions.{face_form}
use Rattle.topo_script.proofs.Steps.{stops_at3, went3}
use Rattle.topo_script.proofs.sessions.read_face.Goals as goal

pub returns-in_err-edge : goal.returns-in_err-edge
unfolding face_form
returns-in_err-edge c = let same : c.from_residual.result ≡ Err c.in_err-edge.field-0.0 = search rules in
    stops_at3 _ _ _ _ _ c.from_residual.result same c.in_err-edge.ensures

pub returns : goal.returns
unfolding face_form
returns c = went3 _ _ _ _ _ _ _ c.in_ok-edge.ensures
