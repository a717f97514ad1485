use Rattle.std.proofs.Common.{◌≡◌, Err, sym, rules, ◌∙◌}
use Rattle.topo_script.specs.RowForms.{crossing_form}
use Rattle.topo_script.proofs.Steps.{gives_past, gives_past2, stops_at, stops_at2, told, went, went2}
use Rattle.topo_script.proofs.row_forms.CrossRowForm.read.Goals as goal

pub returns-in_err-check_keys : goal.returns-in_err-check_keys
unfolding crossing_form
returns-in_err-check_keys c = let same : c.from_residual.result ≡ Err c.in_err-check_keys.field-0.0 = search rules in
    stops_at _ _ _ c.from_residual.result same (told _ _ c.in_err-check_keys.ensures)

pub returns-in_err-crossed : goal.returns-in_err-crossed
unfolding crossing_form
returns-in_err-crossed c = let same : c.from_residual-in_err-crossed.result ≡ Err c.in_err-crossed.field-0.0 = search rules in
    gives_past _ _ _ c.from_residual-in_err-crossed.result (sym c.in_ok-check_keys.ensures)
    (stops_at2 _ _ _ _ c.from_residual-in_err-crossed.result same c.in_err-crossed.ensures)

pub returns-in_err-newcomer : goal.returns-in_err-newcomer
unfolding crossing_form
returns-in_err-newcomer c = let same : c.from_residual-in_err-newcomer.result ≡ Err c.in_err-newcomer.field-0.0 = search rules in
    gives_past _ _ _ c.from_residual-in_err-newcomer.result (sym c.in_ok-check_keys.ensures)
    (gives_past2 _ _ _ _ _ c.from_residual-in_err-newcomer.result c.in_ok-crossed.ensures
    (stops_at2 _ _ _ _ c.from_residual-in_err-newcomer.result same c.in_err-newcomer.ensures))

pub returns : goal.returns
unfolding crossing_form
returns c = went _ _ _ (sym c.in_ok-check_keys.ensures) ∙ went2 _ _ _ _ _ c.in_ok-crossed.ensures ∙ went2 _ _ _ _ _ c.in_ok-newcomer.ensures
