use Rattle.std.proofs.Common.{◌≡◌, Err, rules}
use Rattle.topo_script.specs.Scripts.{some_price}
use Rattle.topo_script.proofs.Steps.{went, stops_at}
use Rattle.topo_script.proofs.prices.read_some_price.Goals as goal

pub returns-in_err-price : goal.returns-in_err-price
unfolding some_price
returns-in_err-price c = let same : c.from_residual.result ≡ Err c.in_err-price.field-0.0 = search rules in
    stops_at _ _ _ c.from_residual.result same c.in_err-price.ensures

pub returns : goal.returns
unfolding some_price
returns c = went _ _ _ c.in_ok-price.ensures
