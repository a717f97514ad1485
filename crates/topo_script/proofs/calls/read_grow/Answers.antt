use Rattle.std.proofs.Common.{◌≡◌, Err, rules}
use Rattle.topo_script.specs.CallForms.{grow_form}
use Rattle.topo_script.proofs.Steps.{stops_at3, went3}
use Rattle.topo_script.proofs.calls.read_grow.Goals as goal

pub returns-in_err-u : goal.returns-in_err-u
unfolding grow_form
returns-in_err-u c = let same : c.from_residual.result ≡ Err c.in_err-u.field-0.0 = search rules in
    stops_at3 _ _ _ _ _ c.from_residual.result same c.in_err-u.ensures

pub returns : goal.returns
unfolding grow_form
returns c = went3 _ _ _ _ _ _ _ c.in_ok-u.ensures
