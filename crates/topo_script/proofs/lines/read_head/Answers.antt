use Rattle.std.proofs.Common.{◌≡◌, Err, sym, rules}
use Rattle.topo_script.specs.Sessions.{envelope_head}
use Rattle.topo_script.proofs.Steps.{gives_past, stops_at, told}
use Rattle.topo_script.proofs.lines.read_head.Goals as goal

pub returns-in_err-check_keys : goal.returns-in_err-check_keys
unfolding envelope_head
returns-in_err-check_keys c = let same : c.from_residual.result ≡ Err c.in_err-check_keys.field-0.0 = search rules in
    stops_at _ _ _ c.from_residual.result same (told _ _ c.in_err-check_keys.ensures)

pub returns : goal.returns
unfolding envelope_head
returns c = gives_past _ _ _ c.read_member_or.result (sym c.in_ok-check_keys.ensures) c.read_member_or.ensures
