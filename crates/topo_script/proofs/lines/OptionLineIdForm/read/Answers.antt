use Rattle.std.proofs.Common.{◌≡◌, Err, rules}
use Rattle.topo_script.specs.Sessions.{some_id}
use Rattle.topo_script.proofs.Steps.{went, stops_at}
use Rattle.topo_script.proofs.lines.OptionLineIdForm.read.Goals as goal

pub returns-in_err-id : goal.returns-in_err-id
unfolding some_id
returns-in_err-id c = let same : c.from_residual.result ≡ Err c.in_err-id.field-0.0 = search rules in
    stops_at _ _ _ c.from_residual.result same c.in_err-id.ensures

pub returns : goal.returns
unfolding some_id
returns c = went _ _ _ c.in_ok-id.ensures
