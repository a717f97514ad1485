use Rattle.topo_script.proofs.TokenReplies.{dart_tokens}
use Rattle.topo_script.proofs.token_replies.DartFromTokens.from_tokens.Goals as goal

pub returns : goal.returns
returns c = dart_tokens c.in_ok-begin_array.ensures c.in_ok-edge.ensures c.in_ok-seg.ensures c.in_ok-way.ensures c.in_ok-end_array.ensures
