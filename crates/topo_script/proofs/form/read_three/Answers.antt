use Rattle.std.proofs.Common.{◌≡◌, Err, rules, ◌∙◌}
use Rattle.topo_script.proofs.Steps.{gives_past2, stops_at, stops_at2, went, went2}
use Rattle.topo_script.proofs.form.read_three.Goals as goal

pub returns-in_err-a : goal.returns-in_err-a
returns-in_err-a g c = let same : c.from_residual.result ≡ Err c.in_err-a.field-0.0 = search rules in
    stops_at2 _ _ _ _ c.from_residual.result same c.in_err-a.ensures

pub returns-in_err-c : goal.returns-in_err-c
returns-in_err-c g c = let same : c.from_residual-in_err-c.result ≡ Err c.in_err-c.field-0.0 = search rules in
    gives_past2 _ _ _ _ _ c.from_residual-in_err-c.result c.in_ok-a.ensures (stops_at _ _ _ c.from_residual-in_err-c.result same c.in_err-c.ensures)

pub returns : goal.returns
returns g c = went2 _ _ _ _ _ c.in_ok-a.ensures ∙ went _ _ _ c.in_ok-c.ensures
