use Rattle.std.proofs.Common.{◌≡◌, Err, sym, rules}
use Rattle.topo_script.specs.Scripts.{nulls_in}
use Rattle.topo_script.proofs.Steps.{gives_past, gives_same, stops_at, told}
use Rattle.topo_script.proofs.script_forms.read_nulls.Goals as goal

pub returns-in_err-check_object : goal.returns-in_err-check_object
unfolding nulls_in
returns-in_err-check_object c = let same : c.from_residual.result ≡ Err c.in_err-check_object.field-0.0 = search rules in
    stops_at _ _ _ c.from_residual.result same (told _ _ c.in_err-check_object.ensures)

pub returns-in_err-version : goal.returns-in_err-version
unfolding nulls_in
returns-in_err-version c = let same : c.from_residual-in_err-version.result ≡ Err c.in_err-version.field-0.0 = search rules in
    gives_past _ _ _ c.from_residual-in_err-version.result (sym c.in_ok-check_object.ensures)
    (stops_at _ _ _ c.from_residual-in_err-version.result same c.in_err-version.ensures)

pub returns : goal.returns
unfolding nulls_in
returns c = gives_past _ _ _ c.nulls_of.result (sym c.in_ok-check_object.ensures)
    (gives_past _ _ _ c.nulls_of.result c.in_ok-version.ensures (gives_same _ _ c.nulls_of.ensures))
