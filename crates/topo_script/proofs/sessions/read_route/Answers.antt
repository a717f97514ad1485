use Rattle.std.proofs.Common.{◌≡◌, Err, rules, ◌∙◌}
use Rattle.topo_script.specs.Sessions.{route_form}
use Rattle.topo_script.proofs.Steps.{gives_past, stops_at, went}
use Rattle.topo_script.proofs.sessions.read_route.Goals as goal

pub returns-in_err-u : goal.returns-in_err-u
unfolding route_form
returns-in_err-u c = let same : c.from_residual.result ≡ Err c.in_err-u.field-0.0 = search rules in
    stops_at _ _ _ c.from_residual.result same c.in_err-u.ensures

pub returns-in_err-v : goal.returns-in_err-v
unfolding route_form
returns-in_err-v c = let same : c.from_residual-in_err-v.result ≡ Err c.in_err-v.field-0.0 = search rules in
    gives_past _ _ _ c.from_residual-in_err-v.result c.in_ok-u.ensures (stops_at _ _ _ c.from_residual-in_err-v.result same c.in_err-v.ensures)

pub returns : goal.returns
unfolding route_form
returns c = went _ _ _ c.in_ok-u.ensures ∙ went _ _ _ c.in_ok-v.ensures
