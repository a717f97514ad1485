use Rattle.std.proofs.Common.{◌≡◌, Err, sym, rules, ◌∙◌}
use Rattle.topo_script.specs.Graphs.{part_form}
use Rattle.topo_script.proofs.Steps.{gives_past, stops_at, stops_at3, told, went, went3}
use Rattle.topo_script.proofs.graph_forms.PartForm.read.Goals as goal

pub returns-in_err-check_keys : goal.returns-in_err-check_keys
unfolding part_form
returns-in_err-check_keys c = let same : c.from_residual.result ≡ Err c.in_err-check_keys.field-0.0 = search rules in
    stops_at _ _ _ c.from_residual.result same (told _ _ c.in_err-check_keys.ensures)

pub returns-in_err-edges : goal.returns-in_err-edges
unfolding part_form
returns-in_err-edges c = let same : c.from_residual-in_err-edges.result ≡ Err c.in_err-edges.field-0.0 = search rules in
    gives_past _ _ _ c.from_residual-in_err-edges.result (sym c.in_ok-check_keys.ensures)
    (stops_at3 _ _ _ _ _ c.from_residual-in_err-edges.result same c.in_err-edges.ensures)

pub returns : goal.returns
unfolding part_form
returns c = went _ _ _ (sym c.in_ok-check_keys.ensures) ∙ went3 _ _ _ _ _ _ _ c.in_ok-edges.ensures
