use Rattle.std.proofs.Common.{◌≡◌, Err, rules}
use Rattle.topo_script.specs.Sessions.{carry_form}
use Rattle.topo_script.proofs.Steps.{went, stops_at}
use Rattle.topo_script.proofs.sessions.read_carry.Goals as goal

pub returns-in_err-command : goal.returns-in_err-command
unfolding carry_form
returns-in_err-command c = let same : c.from_residual.result ≡ Err c.in_err-command.field-0.0 = search rules in
    stops_at _ _ _ c.from_residual.result same c.in_err-command.ensures

pub returns : goal.returns
unfolding carry_form
returns c = went _ _ _ c.in_ok-command.ensures
