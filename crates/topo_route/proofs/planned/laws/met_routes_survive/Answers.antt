use Rattle.topo_route.proofs.meeting.BothEnds.{met_survives}
use Rattle.topo_route.proofs.planned.laws.met_routes_survive.Goals as goal

pub returns : goal.returns
returns g c named after m u v heights distances level least r = met_survives
