use Rattle.std.proofs.Common.{arith}
use Rattle.topo_script.specs.CallForms.{call_form}
use Rattle.topo_script.specs.Reads.{number_form}
use Rattle.topo_script.specs.ReplyForms.{reply_form}
use Rattle.topo_script.proofs.Objects.{last, three_held}
use Rattle.topo_script.proofs.TokenReplies.{entry_tokens}
use Rattle.topo_script.proofs.token_replies.EntryFromTokens.from_tokens.Goals as goal

pub returns : goal.returns
returns c =
    let o = c.in_ok-slots.ensures in
    let three = three_held call_form number_form reply_form _ c.in_ok-call.ensures o.held in
    entry_tokens o.value (omega arith) three.first three.second (last three)
