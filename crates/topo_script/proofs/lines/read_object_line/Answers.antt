use Rattle.std.proofs.Common.{arith}
use Rattle.topo_script.specs.Paths.{whole}
use Rattle.topo_script.proofs.LineLaws.{object_bytes}
use Rattle.topo_script.proofs.lines.read_object_line.Goals as goal

pub returns-in-Some : goal.returns-in-Some
returns-in-Some c = object_bytes c.args.first c.args.bytes.now c.in-Some.line c.line_limit.ensures (c.in-Some.ensures (omega arith) whole)

pub returns-in-None : goal.returns-in-None
returns-in-None c = c.line_of_value.ensures
