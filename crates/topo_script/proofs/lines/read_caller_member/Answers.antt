use Rattle.topo_script.specs.declared.path.Key.TheVariants.{Caller}
use Rattle.topo_script.specs.Paths.{whole}
use Rattle.topo_script.specs.Sessions.{caller_form}
use Rattle.topo_script.proofs.Lookups.{member_there, member_missing}
use Rattle.topo_script.proofs.Steps.{gives_same}
use Rattle.topo_script.proofs.lines.read_caller_member.Goals as goal

pub returns-in-Some : goal.returns-in-Some
returns-in-Some c =
    member_there caller_form whole Caller _ c.read_caller.result c.name.ensures c.member-path.ensures c.in-Some.ensures (gives_same _ _ c.read_caller.ensures)

pub returns-in-None : goal.returns-in-None
returns-in-None c = member_missing caller_form whole Caller _ c.name.ensures c.member-path.ensures c.in-None.ensures
