use Rattle.std.proofs.Common.{rules}
use Rattle.serde_json.proofs.OnLiterals.{serde_json_on_literals}
use Rattle.topo_session.proofs.texts.EndWritten.write.Goals as goal

pub returns-in-A : goal.returns-in-A
unfolding serde_json_on_literals
returns-in-A c = search rules

pub returns-in-B : goal.returns-in-B
unfolding serde_json_on_literals
returns-in-B c = search rules
