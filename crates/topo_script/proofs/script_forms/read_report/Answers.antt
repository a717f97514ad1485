use Rattle.std.proofs.Common.{arith}
use Rattle.topo_script.specs.Paths.{whole}
use Rattle.topo_script.specs.Scripts.{report_of}
use Rattle.topo_script.proofs.script_forms.read_report.Goals as goal

pub returns-in-Some : goal.returns-in-Some
unfolding report_of
returns-in-Some c = c.in-Some.ensures (omega arith) whole

pub returns-in-None : goal.returns-in-None
unfolding report_of
returns-in-None c = c.read_value.ensures
