use Rattle.topo_route.proofs.surviving.Staying.{keeps_ends, keeps_faces}
use Rattle.topo_route.proofs.planned.laws.pictures_keep_themselves.Goals as goal

pub returns : goal.returns
returns c rows inside u v start region = (keeps_faces rows inside region, keeps_ends rows inside u v start)
