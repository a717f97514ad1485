use Rattle.std.proofs.Common.{◌≡◌, Err, sym, rules, ◌∙◌}
use Rattle.topo_script.specs.ReplyForms.{inserted_form}
use Rattle.topo_script.proofs.Steps.{gives_past, gives_past3, stops_at, stops_at2, stops_at3, told, went, went2, went3}
use Rattle.topo_script.proofs.replies.read_inserted.Goals as goal

pub returns-in_err-check_keys : goal.returns-in_err-check_keys
unfolding inserted_form
returns-in_err-check_keys c = let same : c.from_residual.result ≡ Err c.in_err-check_keys.field-0.0 = search rules in
    stops_at _ _ _ c.from_residual.result same (told _ _ c.in_err-check_keys.ensures)

pub returns-in_err-crossed : goal.returns-in_err-crossed
unfolding inserted_form
returns-in_err-crossed c = let same : c.from_residual-in_err-crossed.result ≡ Err c.in_err-crossed.field-0.0 = search rules in
    gives_past _ _ _ c.from_residual-in_err-crossed.result (sym c.in_ok-check_keys.ensures)
    (stops_at3 _ _ _ _ _ c.from_residual-in_err-crossed.result same c.in_err-crossed.ensures)

pub returns-in_err-price : goal.returns-in_err-price
unfolding inserted_form
returns-in_err-price c = let same : c.from_residual-in_err-price.result ≡ Err c.in_err-price.field-0.0 = search rules in
    gives_past _ _ _ c.from_residual-in_err-price.result (sym c.in_ok-check_keys.ensures)
    (gives_past3 _ _ _ _ _ _ _ c.from_residual-in_err-price.result c.in_ok-crossed.ensures
    (stops_at2 _ _ _ _ c.from_residual-in_err-price.result same c.in_err-price.ensures))

pub returns : goal.returns
unfolding inserted_form
returns c = went _ _ _ (sym c.in_ok-check_keys.ensures) ∙ went3 _ _ _ _ _ _ _ c.in_ok-crossed.ensures ∙ went2 _ _ _ _ _ c.in_ok-price.ensures
