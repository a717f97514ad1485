use Rattle.std.proofs.Common.{◌≡◌, rules}
use Rattle.topo_script.proofs.TokenReplies.{plain_tokens}
use Rattle.topo_script.proofs.token_replies.token_plain.Goals as goal

pub returns : goal.returns
returns c =
    let same : c.args.name.now ≡ c.in_ok-text.text.now = search rules in
    plain_tokens c.args.number c.in_ok-text.ensures same c.in_ok-end_array.ensures
