use Rattle.topo_script.proofs.Lookups.{element_there, element_missing}
use Rattle.topo_script.proofs.form.read_element.Goals as goal

pub returns-in-Some : goal.returns-in-Some
returns-in-Some g c = element_there g.T.Form.form c.args.path c.element.result c.args.i _ _ c.read.result c.element.ensures c.in-Some.ensures c.read.ensures

pub returns-in-None : goal.returns-in-None
returns-in-None g c = element_missing g.T.Form.form c.args.path c.args.i _ c.in-None.ensures
