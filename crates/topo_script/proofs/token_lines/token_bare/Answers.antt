use Rattle.topo_script.proofs.TokenLines.{bare_tokens}
use Rattle.topo_script.proofs.token_lines.token_bare.Goals as goal

pub returns : goal.returns
returns c = bare_tokens c.bare_line.ensures c.in_ok-request.ensures
