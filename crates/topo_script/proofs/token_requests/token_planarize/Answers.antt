use Rattle.std.proofs.Common.{◌≡◌, true, is_none, rules}
use Rattle.topo_script.proofs.TokenRequests.{planarize_asked}
use Rattle.topo_script.proofs.token_requests.token_planarize.Goals as goal

pub returns : goal.returns
returns c =
    let none : is_none c.in_ok-asked.asked.seconds ≡ true = search rules in
    planarize_asked c.in_ok-asked.ensures none
