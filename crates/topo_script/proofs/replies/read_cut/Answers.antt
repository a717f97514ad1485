use Rattle.std.proofs.Common.{◌≡◌, Err, rules}
use Rattle.topo_script.specs.ReplyForms.{cut_form}
use Rattle.topo_script.proofs.Steps.{went, stops_at}
use Rattle.topo_script.proofs.replies.read_cut.Goals as goal

pub returns-in_err-segment : goal.returns-in_err-segment
unfolding cut_form
returns-in_err-segment c = let same : c.from_residual.result ≡ Err c.in_err-segment.field-0.0 = search rules in
    stops_at _ _ _ c.from_residual.result same c.in_err-segment.ensures

pub returns : goal.returns
unfolding cut_form
returns c = went _ _ _ c.in_ok-segment.ensures
