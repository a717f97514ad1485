use Rattle.std.proofs.Common.{◌≡◌, Err, sym, rules}
use Rattle.topo_script.specs.Scripts.{workers_form}
use Rattle.topo_script.proofs.Steps.{gives_past, stops_at, told}
use Rattle.topo_script.proofs.script_forms.read_workers.Goals as goal

pub returns-in_err-check_workers : goal.returns-in_err-check_workers
unfolding workers_form
returns-in_err-check_workers c = let same : c.from_residual.result ≡ Err c.in_err-check_workers.field-0.0 = search rules in
    stops_at _ _ _ c.from_residual.result same (told _ _ c.in_err-check_workers.ensures)

pub returns : goal.returns
unfolding workers_form
returns c = gives_past _ _ _ c.read.result (sym c.in_ok-check_workers.ensures) (c.read.ensures)
