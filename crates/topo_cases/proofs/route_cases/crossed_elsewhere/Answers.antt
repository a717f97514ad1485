use Rattle.topo_cases.proofs.ComputedFaces.{covers, ends, faces, lawful_after, lawful_before, route_survives}
use Rattle.topo_cases.proofs.route_cases.crossed_elsewhere.Goals as goal

pub returns : goal.returns
returns c = record { lawful_before = lawful_before; lawful_after = lawful_after; faces = faces; ends = ends; covers = covers; survives = route_survives }
