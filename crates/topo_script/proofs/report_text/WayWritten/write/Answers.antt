use Rattle.std.proofs.Common.{rules}
use Rattle.serde_json.proofs.OnLiterals.{serde_json_on_literals}
use Rattle.topo_script.proofs.report_text.WayWritten.write.Goals as goal

pub returns-in-Forward : goal.returns-in-Forward
unfolding serde_json_on_literals
returns-in-Forward c = search rules

pub returns-in-Back : goal.returns-in-Back
unfolding serde_json_on_literals
returns-in-Back c = search rules
