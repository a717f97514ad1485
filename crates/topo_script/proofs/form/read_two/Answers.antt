use Rattle.std.proofs.Common.{◌≡◌, Err, rules, ◌∙◌}
use Rattle.topo_script.proofs.Steps.{gives_past, stops_at, went}
use Rattle.topo_script.proofs.form.read_two.Goals as goal

pub returns-in_err-a : goal.returns-in_err-a
returns-in_err-a g c = let same : c.from_residual.result ≡ Err c.in_err-a.field-0.0 = search rules in
    stops_at _ _ _ c.from_residual.result same c.in_err-a.ensures

pub returns-in_err-b : goal.returns-in_err-b
returns-in_err-b g c = let same : c.from_residual-in_err-b.result ≡ Err c.in_err-b.field-0.0 = search rules in
    gives_past _ _ _ c.from_residual-in_err-b.result c.in_ok-a.ensures (stops_at _ _ _ c.from_residual-in_err-b.result same c.in_err-b.ensures)

pub returns : goal.returns
returns g c = went _ _ _ c.in_ok-a.ensures ∙ went _ _ _ c.in_ok-b.ensures
