use Rattle.std.proofs.Common.{◌≡◌, Err, sym, rules, ◌∙◌}
use Rattle.topo_script.specs.Graphs.{answer_form}
use Rattle.topo_script.proofs.Steps.{gives_past, stops_at, stops_at2, told, went, went2}
use Rattle.topo_script.proofs.graph_forms.GraphStartForm.read.Goals as goal

pub returns-in_err-check_keys : goal.returns-in_err-check_keys
unfolding answer_form
returns-in_err-check_keys c = let same : c.from_residual.result ≡ Err c.in_err-check_keys.field-0.0 = search rules in
    stops_at _ _ _ c.from_residual.result same (told _ _ c.in_err-check_keys.ensures)

pub returns-in_err-lonely : goal.returns-in_err-lonely
unfolding answer_form
returns-in_err-lonely c = let same : c.from_residual-in_err-lonely.result ≡ Err c.in_err-lonely.field-0.0 = search rules in
    gives_past _ _ _ c.from_residual-in_err-lonely.result (sym c.in_ok-check_keys.ensures)
    (stops_at2 _ _ _ _ c.from_residual-in_err-lonely.result same c.in_err-lonely.ensures)

pub returns : goal.returns
unfolding answer_form
returns c = went _ _ _ (sym c.in_ok-check_keys.ensures) ∙ went2 _ _ _ _ _ c.in_ok-lonely.ensures
