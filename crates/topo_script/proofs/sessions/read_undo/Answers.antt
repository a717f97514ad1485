use Rattle.std.proofs.Common.{◌≡◌, Err, rules}
use Rattle.topo_script.specs.Sessions.{undo_form}
use Rattle.topo_script.proofs.Steps.{went, stops_at}
use Rattle.topo_script.proofs.sessions.read_undo.Goals as goal

pub returns-in_err-count : goal.returns-in_err-count
unfolding undo_form
returns-in_err-count c = let same : c.from_residual.result ≡ Err c.in_err-count.field-0.0 = search rules in
    stops_at _ _ _ c.from_residual.result same c.in_err-count.ensures

pub returns : goal.returns
unfolding undo_form
returns c = went _ _ _ c.in_ok-count.ensures
