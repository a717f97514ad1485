use Rattle.std.proofs.Common.{◌≡◌, Err, sym, rules, ◌∙◌}
use Rattle.topo_script.specs.Sessions.{planarize_form}
use Rattle.topo_script.proofs.Steps.{went, gives_past, stops_at, told}
use Rattle.topo_script.proofs.sessions.read_planarize.Goals as goal

pub returns-in_err-asked : goal.returns-in_err-asked
unfolding planarize_form
returns-in_err-asked c = let same : c.from_residual.result ≡ Err c.in_err-asked.field-0.0 = search rules in
    stops_at _ _ _ c.from_residual.result same c.in_err-asked.ensures

pub returns-in_err-check_seconds : goal.returns-in_err-check_seconds
unfolding planarize_form
returns-in_err-check_seconds c = let same : c.from_residual-in_err-check_seconds.result ≡ Err c.in_err-check_seconds.field-0.0 = search rules in
    gives_past _ _ _ c.from_residual-in_err-check_seconds.result c.in_ok-asked.ensures
    (stops_at _ _ _ c.from_residual-in_err-check_seconds.result same (told _ _ c.in_err-check_seconds.ensures))

pub returns : goal.returns
unfolding planarize_form
returns c = went _ _ _ c.in_ok-asked.ensures ∙ went _ _ _ (sym c.in_ok-check_seconds.ensures)
