use Rattle.std.proofs.Common.{◌≡◌, Err, sym, rules}
use Rattle.topo_script.specs.Reads.{only_form}
use Rattle.topo_script.proofs.Steps.{gives_past, stops_at, told}
use Rattle.topo_script.proofs.form.read_only_member.Goals as goal

pub returns-in_err-check_keys : goal.returns-in_err-check_keys
unfolding only_form
returns-in_err-check_keys g c = let same : c.from_residual.result ≡ Err c.in_err-check_keys.field-0.0 = search rules in
    stops_at _ _ _ c.from_residual.result same (told _ _ c.in_err-check_keys.ensures)

pub returns : goal.returns
unfolding only_form
returns g c = gives_past _ _ _ c.read_member.result (sym c.in_ok-check_keys.ensures) c.read_member.ensures
