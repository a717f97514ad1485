use Rattle.std.proofs.Common.{arith}
use Rattle.topo_script.proofs.TokenScripts.{settings_held}
use Rattle.topo_script.proofs.TokenSessions.{opening_tokens}
use Rattle.topo_script.proofs.token_sessions.OpeningFromTokens.from_tokens.Goals as goal

pub returns : goal.returns
returns c =
    let o = c.in_ok-slots.ensures in
    opening_tokens o.value (omega arith) (settings_held _ c.in_ok-opening.ensures.settings c.in_ok-opening.ensures.rest o.held)
