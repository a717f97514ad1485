use Rattle.topo_script.specs.declared.path.Key.TheVariants.{Threads}
use Rattle.topo_script.specs.Graphs.{threads_form}
use Rattle.topo_script.specs.Paths.{whole}
use Rattle.topo_script.proofs.Lookups.{member_missing, member_there}
use Rattle.topo_script.proofs.graph_forms.read_threads_member.Goals as goal

pub returns-in-Some : goal.returns-in-Some
returns-in-Some c =
    member_there threads_form whole Threads _ c.read_threads.result c.name.ensures c.member-path.ensures c.in-Some.ensures c.read_threads.ensures

pub returns-in-None : goal.returns-in-None
returns-in-None c = member_missing threads_form whole Threads _ c.name.ensures c.member-path.ensures c.in-None.ensures
