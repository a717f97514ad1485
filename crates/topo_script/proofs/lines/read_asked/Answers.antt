use Rattle.std.proofs.Common.{◌≡◌, Err, rules, ◌∙◌}
use Rattle.topo_script.specs.Sessions.{envelope_asked}
use Rattle.topo_script.proofs.Steps.{gives_past, stops_at, went}
use Rattle.topo_script.proofs.lines.read_asked.Goals as goal

pub returns-in_err-caller : goal.returns-in_err-caller
unfolding envelope_asked
returns-in_err-caller c = let same : c.from_residual.result ≡ Err c.in_err-caller.field-0.0 = search rules in
    stops_at _ _ _ c.from_residual.result same c.in_err-caller.ensures

pub returns-in_err-request : goal.returns-in_err-request
unfolding envelope_asked
returns-in_err-request c = let same : c.from_residual-in_err-request.result ≡ Err c.in_err-request.field-0.0 = search rules in
    gives_past _ _ _ c.from_residual-in_err-request.result c.in_ok-caller.ensures (stops_at _ _ _ c.from_residual-in_err-request.result same c.in_err-request.ensures)

pub returns : goal.returns
unfolding envelope_asked
returns c = went _ _ _ c.in_ok-caller.ensures ∙ went _ _ _ c.in_ok-request.ensures
