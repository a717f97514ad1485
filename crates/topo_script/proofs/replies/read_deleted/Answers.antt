use Rattle.std.proofs.Common.{◌≡◌, Err, rules}
use Rattle.topo_script.specs.ReplyForms.{deleted_form}
use Rattle.topo_script.proofs.Steps.{went, stops_at}
use Rattle.topo_script.proofs.replies.read_deleted.Goals as goal

pub returns-in_err-edge : goal.returns-in_err-edge
unfolding deleted_form
returns-in_err-edge c = let same : c.from_residual.result ≡ Err c.in_err-edge.field-0.0 = search rules in
    stops_at _ _ _ c.from_residual.result same c.in_err-edge.ensures

pub returns : goal.returns
unfolding deleted_form
returns c = went _ _ _ c.in_ok-edge.ensures
