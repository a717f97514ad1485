use Rattle.topo_script.proofs.TokenLines.{number_id_tokens}
use Rattle.topo_script.proofs.token_lines.token_number_id.Goals as goal

pub returns : goal.returns
returns c = number_id_tokens c.in_ok-number.ensures
