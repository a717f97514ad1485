use Rattle.std.proofs.Common.{◌≡◌, Err, sym, rules, ◌∙◌}
use Rattle.topo_script.specs.Graphs.{edge_form}
use Rattle.topo_script.proofs.Steps.{went, went3, gives_past, gives_past3, stops_at, stops_at3, told}
use Rattle.topo_script.proofs.graph_forms.GraphEdgeForm.read.Goals as goal

pub returns-in_err-check_count : goal.returns-in_err-check_count
unfolding edge_form
returns-in_err-check_count c = let same : c.from_residual.result ≡ Err c.in_err-check_count.field-0.0 = search rules in
    stops_at _ _ _ c.from_residual.result same (told _ _ c.in_err-check_count.ensures)

pub returns-in_err-a : goal.returns-in_err-a
unfolding edge_form
returns-in_err-a c = let same : c.from_residual-in_err-a.result ≡ Err c.in_err-a.field-0.0 = search rules in
    gives_past _ _ _ c.from_residual-in_err-a.result (sym c.in_ok-check_count.ensures)
    (stops_at3 _ _ _ _ _ c.from_residual-in_err-a.result same c.in_err-a.ensures)

pub returns-in_err-check_kind : goal.returns-in_err-check_kind
unfolding edge_form
returns-in_err-check_kind c = let same : c.from_residual-in_err-check_kind.result ≡ Err c.in_err-check_kind.field-0.0 = search rules in
    gives_past _ _ _ c.from_residual-in_err-check_kind.result (sym c.in_ok-check_count.ensures)
    (gives_past3 _ _ _ _ _ _ _ c.from_residual-in_err-check_kind.result c.in_ok-a.ensures
    (stops_at _ _ _ c.from_residual-in_err-check_kind.result same (told _ _ c.in_err-check_kind.ensures)))

pub returns : goal.returns
unfolding edge_form
returns c = went _ _ _ (sym c.in_ok-check_count.ensures) ∙ went3 _ _ _ _ _ _ _ c.in_ok-a.ensures ∙ went _ _ _ (sym c.in_ok-check_kind.ensures)
