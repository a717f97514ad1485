use Rattle.topo_script.proofs.Lookups.{member_or_there, member_or_missing}
use Rattle.topo_script.proofs.form.read_member_or.Goals as goal

pub returns-then-has_key : goal.returns-then-has_key
returns-then-has_key g c = member_or_there c.args.default g.T.Form.form c.args.path c.args.key _ c.read_member.result c.if-has_key.ensures c.read_member.ensures

pub returns : goal.returns
returns g c = member_or_missing c.args.default g.T.Form.form c.args.path c.args.key _ c.if-has_key.ensures
