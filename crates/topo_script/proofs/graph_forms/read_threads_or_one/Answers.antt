use Rattle.topo_script.specs.declared.path.Key.TheVariants.{Threads}
use Rattle.topo_script.specs.Graphs.{threads_form}
use Rattle.topo_script.specs.Paths.{whole}
use Rattle.topo_script.proofs.Lookups.{member_or_missing, member_or_there}
use Rattle.topo_script.proofs.graph_forms.read_threads_or_one.Goals as goal

pub returns-then-has_key : goal.returns-then-has_key
returns-then-has_key c = member_or_there 1 threads_form whole Threads _ c.read_threads_member.result c.if-has_key.ensures c.read_threads_member.ensures

pub returns-else-has_key : goal.returns-else-has_key
returns-else-has_key c = member_or_missing 1 threads_form whole Threads _ c.if-has_key.ensures
