use Rattle.std.proofs.Common.{◌≡◌, Err, rules}
use Rattle.topo_script.specs.Sessions.{open_form}
use Rattle.topo_script.proofs.Steps.{went, stops_at}
use Rattle.topo_script.proofs.sessions.read_open.Goals as goal

pub returns-in_err-opening : goal.returns-in_err-opening
unfolding open_form
returns-in_err-opening c = let same : c.from_residual.result ≡ Err c.in_err-opening.field-0.0 = search rules in
    stops_at _ _ _ c.from_residual.result same c.in_err-opening.ensures

pub returns : goal.returns
unfolding open_form
returns c = went _ _ _ c.in_ok-opening.ensures
