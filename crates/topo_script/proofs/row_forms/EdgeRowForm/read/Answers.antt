use Rattle.std.proofs.Common.{◌≡◌, Err, sym, rules, ◌∙◌}
use Rattle.topo_script.specs.RowForms.{edge_form}
use Rattle.topo_script.proofs.Steps.{gives_past, gives_past2, stops_at, stops_at2, stops_at3, told, went, went2, went3}
use Rattle.topo_script.proofs.row_forms.EdgeRowForm.read.Goals as goal

pub returns-in_err-check_keys : goal.returns-in_err-check_keys
unfolding edge_form
returns-in_err-check_keys c = let same : c.from_residual.result ≡ Err c.in_err-check_keys.field-0.0 = search rules in
    stops_at _ _ _ c.from_residual.result same (told _ _ c.in_err-check_keys.ensures)

pub returns-in_err-a : goal.returns-in_err-a
unfolding edge_form
returns-in_err-a c = let same : c.from_residual-in_err-a.result ≡ Err c.in_err-a.field-0.0 = search rules in
    gives_past _ _ _ c.from_residual-in_err-a.result (sym c.in_ok-check_keys.ensures)
    (stops_at2 _ _ _ _ c.from_residual-in_err-a.result same c.in_err-a.ensures)

pub returns-in_err-crossings : goal.returns-in_err-crossings
unfolding edge_form
returns-in_err-crossings c = let same : c.from_residual-in_err-crossings.result ≡ Err c.in_err-crossings.field-0.0 = search rules in
    gives_past _ _ _ c.from_residual-in_err-crossings.result (sym c.in_ok-check_keys.ensures)
    (gives_past2 _ _ _ _ _ c.from_residual-in_err-crossings.result c.in_ok-a.ensures
    (stops_at3 _ _ _ _ _ c.from_residual-in_err-crossings.result same c.in_err-crossings.ensures))

pub returns : goal.returns
unfolding edge_form
returns c = went _ _ _ (sym c.in_ok-check_keys.ensures) ∙ went2 _ _ _ _ _ c.in_ok-a.ensures ∙ went3 _ _ _ _ _ _ _ c.in_ok-crossings.ensures
