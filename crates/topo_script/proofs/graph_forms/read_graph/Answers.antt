use Rattle.std.proofs.Common.{arith}
use Rattle.topo_script.specs.Graphs.{graph_of}
use Rattle.topo_script.specs.Paths.{whole}
use Rattle.topo_script.proofs.graph_forms.read_graph.Goals as goal

pub returns-in-Some : goal.returns-in-Some
unfolding graph_of
returns-in-Some c = c.in-Some.ensures (omega arith) whole

pub returns-in-None : goal.returns-in-None
unfolding graph_of
returns-in-None c = c.read_value.ensures
