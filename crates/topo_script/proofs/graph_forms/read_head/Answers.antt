use Rattle.std.proofs.Common.{◌≡◌, Err, rules, ◌∙◌}
use Rattle.topo_script.proofs.Steps.{gives_past, stops_at, went}
use Rattle.topo_script.proofs.graph_forms.read_head.Goals as goal

pub returns-in_err-edges : goal.returns-in_err-edges
returns-in_err-edges c = let same : c.from_residual.result ≡ Err c.in_err-edges.field-0.0 = search rules in
    stops_at _ _ _ c.from_residual.result same c.in_err-edges.ensures

pub returns-in_err-effort : goal.returns-in_err-effort
returns-in_err-effort c = let same : c.from_residual-in_err-effort.result ≡ Err c.in_err-effort.field-0.0 = search rules in
    gives_past _ _ _ c.from_residual-in_err-effort.result c.in_ok-edges.ensures
    (stops_at _ _ _ c.from_residual-in_err-effort.result same c.in_err-effort.ensures)

pub returns-in_err-prices : goal.returns-in_err-prices
returns-in_err-prices c = let same : c.from_residual-in_err-prices.result ≡ Err c.in_err-prices.field-0.0 = search rules in
    gives_past _ _ _ c.from_residual-in_err-prices.result c.in_ok-edges.ensures
    (gives_past _ _ _ c.from_residual-in_err-prices.result c.in_ok-effort.ensures
    (stops_at _ _ _ c.from_residual-in_err-prices.result same c.in_err-prices.ensures))

pub returns : goal.returns
returns c = went _ _ _ c.in_ok-edges.ensures ∙ went _ _ _ c.in_ok-effort.ensures ∙ went _ _ _ c.in_ok-prices.ensures
