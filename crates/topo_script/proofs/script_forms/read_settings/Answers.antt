use Rattle.std.proofs.Common.{◌≡◌, Err, rules, ◌∙◌}
use Rattle.topo_script.proofs.Steps.{gives_past, stops_at, went}
use Rattle.topo_script.proofs.script_forms.read_settings.Goals as goal

pub returns-in_err-limits : goal.returns-in_err-limits
returns-in_err-limits c = let same : c.from_residual.result ≡ Err c.in_err-limits.field-0.0 = search rules in
    stops_at _ _ _ c.from_residual.result same c.in_err-limits.ensures

pub returns-in_err-prices : goal.returns-in_err-prices
returns-in_err-prices c = let same : c.from_residual-in_err-prices.result ≡ Err c.in_err-prices.field-0.0 = search rules in
    gives_past _ _ _ c.from_residual-in_err-prices.result c.in_ok-limits.ensures
    (stops_at _ _ _ c.from_residual-in_err-prices.result same c.in_err-prices.ensures)

pub returns-in_err-start : goal.returns-in_err-start
returns-in_err-start c = let same : c.from_residual-in_err-start.result ≡ Err c.in_err-start.field-0.0 = search rules in
    gives_past _ _ _ c.from_residual-in_err-start.result c.in_ok-limits.ensures
    (gives_past _ _ _ c.from_residual-in_err-start.result c.in_ok-prices.ensures
    (stops_at _ _ _ c.from_residual-in_err-start.result same c.in_err-start.ensures))

pub returns : goal.returns
returns c = went _ _ _ c.in_ok-limits.ensures ∙ went _ _ _ c.in_ok-prices.ensures ∙ went _ _ _ c.in_ok-start.ensures
