use Rattle.topo_script.proofs.LineLaws.{text_there, no_text_there}
use Rattle.topo_script.proofs.lines.LineIdForm.read.Goals as goal

pub returns-in-Some : goal.returns-in-Some
returns-in-Some c = text_there c.args.path _ c.read_text_id.result c.in-Some.ensures c.read_text_id.ensures

pub returns-in-None : goal.returns-in-None
returns-in-None c = no_text_there c.args.path _ c.read_number_id.result c.in-None.ensures c.read_number_id.ensures
