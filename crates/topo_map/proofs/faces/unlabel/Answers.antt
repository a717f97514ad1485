use Rattle.std.proofs.Common.{arith}
use Rattle.topo_map.proofs.Stored.{below_limit}
use Rattle.topo_map.proofs.LabelledAll.{blank_all}
use Rattle.topo_map.proofs.faces.unlabel.Goals as goal

pub returns-clause-blank : goal.returns-clause-blank
returns-clause-blank c = grind (arith, blank_all, below_limit)
