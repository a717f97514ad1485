use Rattle.std.proofs.Common.{rules}
use Rattle.serde_json.proofs.OnLiterals.{serde_json_on_literals}
use Rattle.topo_script.proofs.row_forms.SignWritten.write.Goals as goal

pub returns-in-LeftToRight : goal.returns-in-LeftToRight
unfolding serde_json_on_literals
returns-in-LeftToRight c = search rules

pub returns-in-RightToLeft : goal.returns-in-RightToLeft
unfolding serde_json_on_literals
returns-in-RightToLeft c = search rules
