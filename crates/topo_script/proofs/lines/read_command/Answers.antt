use Rattle.std.proofs.Common.{arith}
use Rattle.topo_script.specs.Paths.{whole}
use Rattle.topo_script.proofs.LineLaws.{later_tokens}
use Rattle.topo_script.proofs.lines.read_command.Goals as goal

pub returns : goal.returns
returns c = later_tokens c.args.bytes.now c.in_ok-command.command (c.in_ok-command.ensures (omega arith) whole)
