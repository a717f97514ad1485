use Rattle.std.proofs.Common.{◌≡◌, Err, sym, rules, ◌∙◌}
use Rattle.topo_script.specs.ReplyForms.{dart_form}
use Rattle.topo_script.proofs.Steps.{gives_past, stops_at, stops_at3, told, went, went3}
use Rattle.topo_script.proofs.replies.DartForm.read.Goals as goal

pub returns-in_err-check_count : goal.returns-in_err-check_count
unfolding dart_form
returns-in_err-check_count c = let same : c.from_residual.result ≡ Err c.in_err-check_count.field-0.0 = search rules in
    stops_at _ _ _ c.from_residual.result same (told _ _ c.in_err-check_count.ensures)

pub returns-in_err-edge : goal.returns-in_err-edge
unfolding dart_form
returns-in_err-edge c = let same : c.from_residual-in_err-edge.result ≡ Err c.in_err-edge.field-0.0 = search rules in
    gives_past _ _ _ c.from_residual-in_err-edge.result (sym c.in_ok-check_count.ensures)
    (stops_at3 _ _ _ _ _ c.from_residual-in_err-edge.result same c.in_err-edge.ensures)

pub returns : goal.returns
unfolding dart_form
returns c = went _ _ _ (sym c.in_ok-check_count.ensures) ∙ went3 _ _ _ _ _ _ _ c.in_ok-edge.ensures
