use Rattle.std.proofs.Common.{◌≡◌, Err, rules}
use Rattle.topo_script.specs.CallForms.{plain_form}
use Rattle.topo_script.proofs.Steps.{went, stops_at}
use Rattle.topo_script.proofs.calls.read_plain.Goals as goal

pub returns-in_err-call : goal.returns-in_err-call
unfolding plain_form
returns-in_err-call c = let same : c.from_residual.result ≡ Err c.in_err-call.field-0.0 = search rules in
    stops_at _ _ _ c.from_residual.result same c.in_err-call.ensures

pub returns : goal.returns
unfolding plain_form
returns c = went _ _ _ c.in_ok-call.ensures
