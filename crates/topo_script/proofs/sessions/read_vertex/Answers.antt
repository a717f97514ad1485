use Rattle.std.proofs.Common.{◌≡◌, Err, rules}
use Rattle.topo_script.specs.Sessions.{vertex_form}
use Rattle.topo_script.proofs.Steps.{went, stops_at}
use Rattle.topo_script.proofs.sessions.read_vertex.Goals as goal

pub returns-in_err-vertex : goal.returns-in_err-vertex
unfolding vertex_form
returns-in_err-vertex c = let same : c.from_residual.result ≡ Err c.in_err-vertex.field-0.0 = search rules in
    stops_at _ _ _ c.from_residual.result same c.in_err-vertex.ensures

pub returns : goal.returns
unfolding vertex_form
returns c = went _ _ _ c.in_ok-vertex.ensures
