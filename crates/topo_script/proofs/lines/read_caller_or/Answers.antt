use Rattle.topo_script.specs.declared.path.Key.TheVariants.{Caller}
use Rattle.topo_script.specs.Paths.{whole}
use Rattle.topo_script.specs.Sessions.{caller_form}
use Rattle.topo_script.proofs.Lookups.{member_or_there, member_or_missing}
use Rattle.topo_script.proofs.lines.read_caller_or.Goals as goal

pub returns-then-has_key : goal.returns-then-has_key
returns-then-has_key c =
    member_or_there 0 caller_form whole Caller _ c.read_caller_member.result c.if-has_key.ensures c.read_caller_member.ensures

pub returns-else-has_key : goal.returns-else-has_key
returns-else-has_key c = member_or_missing 0 caller_form whole Caller _ c.if-has_key.ensures
