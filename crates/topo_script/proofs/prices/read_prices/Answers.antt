use Rattle.std.proofs.Common.{◌≡◌, Err, sym, rules, ◌∙◌, ap, Ok}
use Rattle.topo_script.specs.Scripts.{prices_form}
use Rattle.topo_script.proofs.Steps.{went, gives_past, stops_at, told}
use Rattle.topo_script.proofs.prices.read_prices.Goals as goal

pub returns-in_err-check_prices : goal.returns-in_err-check_prices
unfolding prices_form
returns-in_err-check_prices c = let same : c.from_residual.result ≡ Err c.in_err-check_prices.field-0.0 = search rules in
    stops_at _ _ _ c.from_residual.result same (told _ _ c.in_err-check_prices.ensures)

pub returns-in_err-prices : goal.returns-in_err-prices
unfolding prices_form
returns-in_err-prices c = let same : c.from_residual-in_err-prices.result ≡ Err c.in_err-prices.field-0.0 = search rules in
    gives_past _ _ _ c.from_residual-in_err-prices.result (sym c.in_ok-check_prices.ensures)
    (stops_at _ _ _ c.from_residual-in_err-prices.result same c.in_err-prices.ensures)

pub returns : goal.returns
unfolding prices_form
returns c = went _ _ _ (sym c.in_ok-check_prices.ensures) ∙ went _ _ _ c.in_ok-prices.ensures ∙ ap (λ xs. Ok xs) (sym c.without_ones.ensures)
