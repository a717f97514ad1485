use Rattle.std.proofs.Common.{◌≡◌, Err, rules}
use Rattle.topo_script.specs.Scripts.{picture_form}
use Rattle.topo_script.proofs.Steps.{went, stops_at}
use Rattle.topo_script.proofs.script_forms.read_picture.Goals as goal

pub returns-in_err-rows : goal.returns-in_err-rows
unfolding picture_form
returns-in_err-rows c = let same : c.from_residual.result ≡ Err c.in_err-rows.field-0.0 = search rules in
    stops_at _ _ _ c.from_residual.result same c.in_err-rows.ensures

pub returns : goal.returns
unfolding picture_form
returns c = went _ _ _ c.in_ok-rows.ensures
