use Rattle.std.proofs.Common.{◌≡◌, Err, sym, rules, ◌∙◌}
use Rattle.topo_script.specs.Sessions.{opening_form}
use Rattle.topo_script.proofs.Steps.{went, went3, gives_past, stops_at, stops_at3, told}
use Rattle.topo_script.proofs.sessions.OpeningForm.read.Goals as goal

pub returns-in_err-nulls : goal.returns-in_err-nulls
unfolding opening_form
returns-in_err-nulls c = let same : c.from_residual.result ≡ Err c.in_err-nulls.field-0.0 = search rules in
    stops_at _ _ _ c.from_residual.result same c.in_err-nulls.ensures

pub returns-in_err-check_keys : goal.returns-in_err-check_keys
unfolding opening_form
returns-in_err-check_keys c = let same : c.from_residual-in_err-check_keys.result ≡ Err c.in_err-check_keys.field-0.0 = search rules in
    gives_past _ _ _ c.from_residual-in_err-check_keys.result c.in_ok-nulls.ensures
    (stops_at _ _ _ c.from_residual-in_err-check_keys.result same (told _ _ c.in_err-check_keys.ensures))

pub returns-in_err-limits : goal.returns-in_err-limits
unfolding opening_form
returns-in_err-limits c = let same : c.from_residual-in_err-limits.result ≡ Err c.in_err-limits.field-0.0 = search rules in
    gives_past _ _ _ c.from_residual-in_err-limits.result c.in_ok-nulls.ensures (gives_past _ _ _ c.from_residual-in_err-limits.result
    (sym c.in_ok-check_keys.ensures) (stops_at3 _ _ _ _ _ c.from_residual-in_err-limits.result same c.in_err-limits.ensures))

pub returns : goal.returns
unfolding opening_form
returns c = went _ _ _ c.in_ok-nulls.ensures ∙ went _ _ _ (sym c.in_ok-check_keys.ensures) ∙ went3 _ _ _ _ _ _ _ c.in_ok-limits.ensures
