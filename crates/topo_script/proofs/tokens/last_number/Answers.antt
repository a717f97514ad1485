use Rattle.topo_script.proofs.tokens.last_number.Goals as goal

pub returns : goal.returns
returns c = record { behind = _; spelled = c.in_ok-number.ensures; closed = c.in_ok-end_array.ensures }
