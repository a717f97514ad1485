use Rattle.topo_script.proofs.Lookups.{member_there, member_missing}
use Rattle.topo_script.proofs.form.read_member.Goals as goal

pub returns-in-Some : goal.returns-in-Some
returns-in-Some g c = member_there g.T.Form.form c.args.path c.args.key _ c.read.result c.name.ensures c.member.ensures c.in-Some.ensures c.read.ensures

pub returns-in-None : goal.returns-in-None
returns-in-None g c = member_missing g.T.Form.form c.args.path c.args.key _ c.name.ensures c.member-in-None.ensures c.in-None.ensures
