use Rattle.std.proofs.Common.{◌≡◌, Err, rules}
use Rattle.topo_script.specs.ReplyForms.{refused_form}
use Rattle.topo_script.proofs.Steps.{went, stops_at}
use Rattle.topo_script.proofs.replies.read_refused.Goals as goal

pub returns-in_err-why : goal.returns-in_err-why
unfolding refused_form
returns-in_err-why c = let same : c.from_residual.result ≡ Err c.in_err-why.field-0.0 = search rules in
    stops_at _ _ _ c.from_residual.result same c.in_err-why.ensures

pub returns : goal.returns
unfolding refused_form
returns c = went _ _ _ c.in_ok-why.ensures
