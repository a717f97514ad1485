use Rattle.topo_script.specs.declared.path.Key.TheVariants.{Workers}
use Rattle.topo_script.specs.Paths.{whole}
use Rattle.topo_script.specs.Scripts.{workers_form}
use Rattle.topo_script.proofs.Lookups.{member_there, member_missing}
use Rattle.topo_script.proofs.script_forms.read_workers_member.Goals as goal

pub returns-in-Some : goal.returns-in-Some
returns-in-Some c =
    member_there workers_form whole Workers _ c.read_workers.result c.name.ensures c.member-path.ensures c.in-Some.ensures c.read_workers.ensures

pub returns-in-None : goal.returns-in-None
returns-in-None c = member_missing workers_form whole Workers _ c.name.ensures c.member-path.ensures c.in-None.ensures
