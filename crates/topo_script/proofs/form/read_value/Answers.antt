use Rattle.std.proofs.Common.{◌≡◌, Err, rules}
use Rattle.topo_script.proofs.Steps.{gives_past, stops_at}
use Rattle.topo_script.proofs.form.read_value.Goals as goal

pub returns-in_err-value : goal.returns-in_err-value
returns-in_err-value g c = let same : c.from_residual.result ≡ Err c.in_err-value.field-0.0 = search rules in
    stops_at _ _ _ c.from_residual.result same c.in_err-value.ensures

pub returns : goal.returns
returns g c = gives_past _ _ _ c.read.result c.in_ok-value.ensures c.read.ensures
