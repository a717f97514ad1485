use Rattle.topo_script.proofs.TokenRequests.{route_asked}
use Rattle.topo_script.proofs.token_requests.token_route.Goals as goal

pub returns : goal.returns
returns c = route_asked c.in_ok-u.ensures c.in_ok-v.ensures c.in_ok-end_array.ensures
