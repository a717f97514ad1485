use Rattle.std.proofs.Common.{◌≡◌, Err, rules}
use Rattle.topo_script.specs.Sessions.{reopen_form}
use Rattle.topo_script.proofs.Steps.{went, stops_at}
use Rattle.topo_script.proofs.sessions.read_reopen.Goals as goal

pub returns-in_err-report : goal.returns-in_err-report
unfolding reopen_form
returns-in_err-report c = let same : c.from_residual.result ≡ Err c.in_err-report.field-0.0 = search rules in
    stops_at _ _ _ c.from_residual.result same c.in_err-report.ensures

pub returns : goal.returns
unfolding reopen_form
returns c = went _ _ _ c.in_ok-report.ensures
