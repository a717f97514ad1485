use Rattle.std.proofs.Common.{◌≡◌, Err, rules}
use Rattle.topo_script.specs.Sessions.{number_id}
use Rattle.topo_script.proofs.Steps.{went, stops_at}
use Rattle.topo_script.proofs.lines.read_number_id.Goals as goal

pub returns-in_err-number : goal.returns-in_err-number
unfolding number_id
returns-in_err-number c = let same : c.from_residual.result ≡ Err c.in_err-number.field-0.0 = search rules in
    stops_at _ _ _ c.from_residual.result same c.in_err-number.ensures

pub returns : goal.returns
unfolding number_id
returns c = went _ _ _ c.in_ok-number.ensures
