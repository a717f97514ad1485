use Rattle.topo_script.proofs.TokenRequests.{word_asked}
use Rattle.topo_script.proofs.token_requests.token_word.Goals as goal

pub returns : goal.returns
returns c = word_asked c.asked_by.result c.in_ok-word.ensures c.asked_by.ensures
