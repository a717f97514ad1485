use Rattle.std.proofs.Common.{◌≡◌, Err, sym, rules, ◌∙◌}
use Rattle.topo_script.specs.ReplyForms.{entry_form}
use Rattle.topo_script.proofs.Steps.{gives_past, stops_at, stops_at3, told, went, went3}
use Rattle.topo_script.proofs.replies.EntryForm.read.Goals as goal

pub returns-in_err-check_keys : goal.returns-in_err-check_keys
unfolding entry_form
returns-in_err-check_keys c = let same : c.from_residual.result ≡ Err c.in_err-check_keys.field-0.0 = search rules in
    stops_at _ _ _ c.from_residual.result same (told _ _ c.in_err-check_keys.ensures)

pub returns-in_err-call : goal.returns-in_err-call
unfolding entry_form
returns-in_err-call c = let same : c.from_residual-in_err-call.result ≡ Err c.in_err-call.field-0.0 = search rules in
    gives_past _ _ _ c.from_residual-in_err-call.result (sym c.in_ok-check_keys.ensures)
    (stops_at3 _ _ _ _ _ c.from_residual-in_err-call.result same c.in_err-call.ensures)

pub returns : goal.returns
unfolding entry_form
returns c = went _ _ _ (sym c.in_ok-check_keys.ensures) ∙ went3 _ _ _ _ _ _ _ c.in_ok-call.ensures
