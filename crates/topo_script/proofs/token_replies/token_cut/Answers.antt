use Rattle.topo_script.proofs.TokenReplies.{cut_tokens}
use Rattle.topo_script.proofs.token_replies.token_cut.Goals as goal

pub returns : goal.returns
returns c = cut_tokens c.in_ok-segment.ensures
