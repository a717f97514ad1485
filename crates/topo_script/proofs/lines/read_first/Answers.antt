use Rattle.std.proofs.Common.{arith}
use Rattle.topo_script.specs.Paths.{whole}
use Rattle.topo_script.proofs.LineLaws.{first_tokens}
use Rattle.topo_script.proofs.lines.read_first.Goals as goal

pub returns-in-Some : goal.returns-in-Some
returns-in-Some c = first_tokens c.args.bytes.now c.in-Some.opening (c.in-Some.ensures (omega arith) whole)

pub returns-in-None : goal.returns-in-None
returns-in-None c = c.read_object_line.ensures
