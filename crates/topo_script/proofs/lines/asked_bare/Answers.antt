use Rattle.std.proofs.Common.{◌≡◌, Err, rules}
use Rattle.topo_script.specs.Sessions.{bare_asked}
use Rattle.topo_script.proofs.Steps.{went, stops_at}
use Rattle.topo_script.proofs.lines.asked_bare.Goals as goal

pub returns-in_err-request : goal.returns-in_err-request
unfolding bare_asked
returns-in_err-request c = let same : c.from_residual.result ≡ Err c.in_err-request.field-0.0 = search rules in
    stops_at _ _ _ c.from_residual.result same c.in_err-request.ensures

pub returns : goal.returns
unfolding bare_asked
returns c = went _ _ _ c.in_ok-request.ensures
