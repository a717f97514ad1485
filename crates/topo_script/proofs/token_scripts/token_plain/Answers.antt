use Rattle.topo_script.proofs.TokenCalls.{plain_tokens}
use Rattle.topo_script.proofs.token_scripts.token_plain.Goals as goal

pub returns : goal.returns
returns c = plain_tokens c.in_ok-call.ensures
