use Rattle.std.proofs.Common.{◌≡◌, Err, rules, ◌∙◌}
use Rattle.topo_script.proofs.Steps.{gives_past, stops_at, went}
use Rattle.topo_script.proofs.graph_forms.read_tail.Goals as goal

pub returns-in_err-start : goal.returns-in_err-start
returns-in_err-start c = let same : c.from_residual.result ≡ Err c.in_err-start.field-0.0 = search rules in
    stops_at _ _ _ c.from_residual.result same c.in_err-start.ensures

pub returns-in_err-threads : goal.returns-in_err-threads
returns-in_err-threads c = let same : c.from_residual-in_err-threads.result ≡ Err c.in_err-threads.field-0.0 = search rules in
    gives_past _ _ _ c.from_residual-in_err-threads.result c.in_ok-start.ensures
    (stops_at _ _ _ c.from_residual-in_err-threads.result same c.in_err-threads.ensures)

pub returns-in_err-vertices : goal.returns-in_err-vertices
returns-in_err-vertices c = let same : c.from_residual-in_err-vertices.result ≡ Err c.in_err-vertices.field-0.0 = search rules in
    gives_past _ _ _ c.from_residual-in_err-vertices.result c.in_ok-start.ensures
    (gives_past _ _ _ c.from_residual-in_err-vertices.result c.in_ok-threads.ensures
    (stops_at _ _ _ c.from_residual-in_err-vertices.result same c.in_err-vertices.ensures))

pub returns : goal.returns
returns c = went _ _ _ c.in_ok-start.ensures ∙ went _ _ _ c.in_ok-threads.ensures ∙ went _ _ _ c.in_ok-vertices.ensures
