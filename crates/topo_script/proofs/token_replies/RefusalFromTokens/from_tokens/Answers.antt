use Rattle.topo_script.proofs.TokenReplies.{refusal_tokens}
use Rattle.topo_script.proofs.token_replies.RefusalFromTokens.from_tokens.Goals as goal

pub returns : goal.returns
returns c =
    refusal_tokens c.token_why.result c.token_why.new.reader c.in_ok-begin_array.ensures
    c.in_ok-number.ensures c.in_ok-name.ensures c.token_why.ensures
