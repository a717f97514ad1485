use Rattle.topo_script.proofs.TokenCalls.{call_tokens}
use Rattle.topo_script.proofs.token_calls.CallFromTokens.from_tokens.Goals as goal

pub returns : goal.returns
returns c = call_tokens c.call_after.result c.call_after.new.reader c.in_ok-begin_array.ensures c.in_ok-word.ensures c.call_after.ensures
