use Rattle.topo_script.proofs.TokenCalls.{planned_tokens}
use Rattle.topo_script.proofs.token_scripts.token_planned.Goals as goal

pub returns : goal.returns
returns c = planned_tokens c.in_ok-u.ensures
