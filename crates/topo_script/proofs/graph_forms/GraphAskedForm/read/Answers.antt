use Rattle.std.proofs.Common.{◌≡◌, Err, sym, rules, ◌∙◌}
use Rattle.topo_script.specs.Graphs.{graph_form}
use Rattle.topo_script.proofs.Steps.{went, went3, gives_past, gives_past3, stops_at, stops_at3, told}
use Rattle.topo_script.proofs.graph_forms.GraphAskedForm.read.Goals as goal

pub returns-in_err-nulls : goal.returns-in_err-nulls
unfolding graph_form
returns-in_err-nulls c = let same : c.from_residual.result ≡ Err c.in_err-nulls.field-0.0 = search rules in
    stops_at _ _ _ c.from_residual.result same c.in_err-nulls.ensures

pub returns-in_err-check_keys : goal.returns-in_err-check_keys
unfolding graph_form
returns-in_err-check_keys c = let same : c.from_residual-in_err-check_keys.result ≡ Err c.in_err-check_keys.field-0.0 = search rules in
    gives_past _ _ _ c.from_residual-in_err-check_keys.result c.in_ok-nulls.ensures
    (stops_at _ _ _ c.from_residual-in_err-check_keys.result same (told _ _ c.in_err-check_keys.ensures))

pub returns-in_err-edges : goal.returns-in_err-edges
unfolding graph_form
returns-in_err-edges c = let same : c.from_residual-in_err-edges.result ≡ Err c.in_err-edges.field-0.0 = search rules in
    gives_past _ _ _ c.from_residual-in_err-edges.result c.in_ok-nulls.ensures (gives_past _ _ _ c.from_residual-in_err-edges.result
    (sym c.in_ok-check_keys.ensures) (stops_at3 _ _ _ _ _ c.from_residual-in_err-edges.result same c.in_err-edges.ensures))

pub returns-in_err-progress : goal.returns-in_err-progress
unfolding graph_form
returns-in_err-progress c = let same : c.from_residual-in_err-progress.result ≡ Err c.in_err-progress.field-0.0 = search rules in
    gives_past _ _ _ c.from_residual-in_err-progress.result c.in_ok-nulls.ensures (gives_past _ _ _ c.from_residual-in_err-progress.result
    (sym c.in_ok-check_keys.ensures) (gives_past3 _ _ _ _ _ _ _ c.from_residual-in_err-progress.result c.in_ok-edges.ensures
    (stops_at3 _ _ _ _ _ c.from_residual-in_err-progress.result same c.in_err-progress.ensures)))

pub returns-in_err-start : goal.returns-in_err-start
unfolding graph_form
returns-in_err-start c = let same : c.from_residual-in_err-start.result ≡ Err c.in_err-start.field-0.0 = search rules in
    gives_past _ _ _ c.from_residual-in_err-start.result c.in_ok-nulls.ensures (gives_past _ _ _ c.from_residual-in_err-start.result
    (sym c.in_ok-check_keys.ensures) (gives_past3 _ _ _ _ _ _ _ c.from_residual-in_err-start.result c.in_ok-edges.ensures
    (gives_past3 _ _ _ _ _ _ _ c.from_residual-in_err-start.result c.in_ok-progress.ensures
    (stops_at3 _ _ _ _ _ c.from_residual-in_err-start.result same c.in_err-start.ensures))))

pub returns : goal.returns
unfolding graph_form
returns c = went _ _ _ c.in_ok-nulls.ensures ∙ went _ _ _ (sym c.in_ok-check_keys.ensures) ∙ went3 _ _ _ _ _ _ _ c.in_ok-edges.ensures
    ∙ went3 _ _ _ _ _ _ _ c.in_ok-progress.ensures ∙ went3 _ _ _ _ _ _ _ c.in_ok-start.ensures
